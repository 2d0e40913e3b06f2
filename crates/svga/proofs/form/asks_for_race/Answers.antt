use Rattle.std.proofs.Common.{Some, ap, refl}
use Rattle.svga.specs.declared.form.Form.TheVariants.{Race}
use Rattle.svga.proofs.form.asks_for_race.Goals as goal

pub returns-in-Some-Words : goal.returns-in-Some-Words
returns-in-Some-Words c = (
  λ e. absurd (cc e),
  λ asked. absurd (cc ((c.in-Some-Words.ensures Race).1 asked, c.in-Some-Words.field-0-is)),
)

pub returns-in-Some-Replay : goal.returns-in-Some-Replay
returns-in-Some-Replay c = (
  λ e. absurd (cc e),
  λ asked. absurd (cc ((c.in-Some-Replay.ensures Race).1 asked, c.in-Some-Replay.field-0-is)),
)

pub returns-in-Some-Race : goal.returns-in-Some-Race
returns-in-Some-Race c =
    (λ _. (c.in-Some-Race.ensures Race).0 (ap Some c.in-Some-Race.field-0-is), λ _. refl)

pub returns-in-None : goal.returns-in-None
returns-in-None c = (λ e. absurd (cc e), λ asked. absurd (cc ((c.in-None.ensures Race).1 asked)))
