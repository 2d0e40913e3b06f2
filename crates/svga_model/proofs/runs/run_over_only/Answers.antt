use Rattle.std.proofs.Common.{sym}
use Rattle.svga_model.proofs.OnlyOthers.{others_by_puts}
use Rattle.svga_model.proofs.OnlyPlaces.{touched_somewhere}
use Rattle.svga_model.proofs.OnlyRuns.{only_agrees, only_alike}
use Rattle.svga_model.proofs.runs.run_over_only.Goals as goal

pub returns-clause-somewhere : goal.returns-clause-somewhere
returns-clause-somewhere c = touched_somewhere

pub returns-clause-done : goal.returns-clause-done
returns-clause-done c s acts = sym (only_alike s acts).ends

pub returns-clause-fault : goal.returns-clause-fault
returns-clause-fault c s acts ys act e = sym ((only_alike s acts).fault ys act e)

pub returns-clause-kept : goal.returns-clause-kept
returns-clause-kept c s acts = sym (only_alike s acts).kept

pub returns-clause-pages : goal.returns-clause-pages
returns-clause-pages c s acts key met = sym ((only_alike s acts).pages key (only_agrees s acts key met))

pub returns-clause-others : goal.returns-clause-others
returns-clause-others c = others_by_puts
