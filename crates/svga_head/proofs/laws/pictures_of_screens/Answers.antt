use Rattle.svga_head.proofs.PictureLaws.{defined_picture, on_picture, pictures_of-empty, pictures_of-painted, pictures_of-with_screen, pictures_of-without_screen, row_of_screen}
use Rattle.svga_head.proofs.laws.pictures_of_screens.Goals as goal

pub returns-clause-none : goal.returns-clause-none
returns-clause-none c = pictures_of-empty

pub returns-clause-row : goal.returns-clause-row
returns-clause-row c = row_of_screen

pub returns-clause-defined : goal.returns-clause-defined
returns-clause-defined c = pictures_of-with_screen

pub returns-clause-destroyed : goal.returns-clause-destroyed
returns-clause-destroyed c = pictures_of-without_screen

pub returns-clause-painted : goal.returns-clause-painted
returns-clause-painted c = pictures_of-painted

pub returns-clause-there : goal.returns-clause-there
returns-clause-there c = defined_picture

pub returns-clause-on_picture : goal.returns-clause-on_picture
returns-clause-on_picture c = on_picture
