use Rattle.svga_model.proofs.PutLaws.{lacking, page_other, page_put, put_admissible, with_page-lacks}
use Rattle.svga_model.proofs.states.put_alone.Goals as goal

pub returns-clause-page : goal.returns-clause-page
returns-clause-page c = λ s key bytes has. page_put s.memory key bytes has

pub returns-clause-lacking : goal.returns-clause-lacking
returns-clause-lacking c = λ s key bytes away i. record s { memory = with_page-lacks s.memory key bytes (lacking s.memory key away) i }

pub returns-clause-others : goal.returns-clause-others
returns-clause-others c = λ s key other bytes ne. page_other s.memory key other bytes ne

pub returns-clause-admissible : goal.returns-clause-admissible
returns-clause-admissible c = put_admissible
