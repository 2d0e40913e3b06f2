-- What becomes of the call that describes a region, and how the driver goes on by it.
use Rattle.std.proofs.Common.{◌≡◌, ℕ, List, [], ◌∷◌, ◌++◌, refl, ap, ◌∙◌, Option, Some, None, option_map, Ok, Err, All, append-nil}
use Rattle.std.proofs.lemmas.List.Elements.{All-head, All-tail}
use Rattle.svga_driver.specs.Answering.{told}
use Rattle.svga_driver.specs.DescribeAnswers.{DescribeAnswers, IsAgain, IsLookedAt, IsWalked, start_refusal}
use Rattle.svga_driver.specs.Driving.{DriverHas, client_in, settled, with_view}
use Rattle.svga_driver.specs.declared.fault.DriverFault.{DriverFault}
use Rattle.svga_driver.specs.declared.fault.DriverFault.TheVariants as driver
use Rattle.svga_driver.specs.declared.fault.Posted.{Posted}
use Rattle.svga_model.specs.Acts.{Act, Chain, Do, Put}
use Rattle.svga_model.specs.ClientActs.{DescribeRegion}
use Rattle.svga_model.specs.ClientFaults.{ClientFault}
use Rattle.svga_model.specs.Clients.{refusal_of}
use Rattle.svga_pair.proofs.DriverLaws.{IsLoaded, asked_stays, goes_none, loaded_then, refused_so, settled_loaded, stop_loaded, tried_again}
use Rattle.svga_pair.specs.Answering.{answer_of}
use Rattle.svga_pair.specs.Going.{GoesOn, HasTried}
use Rattle.svga_pair.specs.declared.answer.Answer.TheVariants.{Again, Done}
use Rattle.svga_pair.specs.declared.answer.Told.TheVariants.{Nothing}
use Rattle.svga_ring.proofs.Words.NextCommand.{commands-append}
use Rattle.svga_ring.specs.Committed.{commands}
use Rattle.svga_ring.specs.Views.{DriverView}

-- pages that are lent again are no commands
again_none : (d : DriverView) (again : List Act) → All (IsAgain d) again → commands again ≡ []
again_none d [] all = refl
again_none d (Do c ∷ again) all = absurd (All-head (IsAgain d) (Do c) again all)
again_none d (Put key bytes ∷ again) all =
    again_none d again (All-tail (IsAgain d) (Put key bytes) again all)
again_none d (Chain id first ∷ again) all = absurd (All-head (IsAgain d) (Chain id first) again all)

-- Nothing is sent by what changes a view so.
record IsUnsent (d left : DriverView) : Type 0 where
  pub terms_are : left.terms ≡ d.terms
  pub layout_is : left.layout ≡ d.layout
  pub commands_are : commands left.acts ≡ commands d.acts
  pub sent_are : left.sent ≡ d.sent
  pub stores_are : left.next_stores ≡ d.next_stores

loaded_unsent : (d left : DriverView) → IsLoaded d left → IsUnsent d left
loaded_unsent d left o = record {
  terms_are = ap (λ (x : DriverView). x.terms) o.left_is;
  layout_is = ap (λ (x : DriverView). x.layout) o.left_is;
  commands_are = ap (λ (x : DriverView). commands x.acts) o.left_is;
  sent_are = ap (λ (x : DriverView). x.sent) o.left_is;
  stores_are = ap (λ (x : DriverView). x.next_stores) o.left_is;
}

walked_unsent : (d left : DriverView) → IsWalked d left → IsUnsent d left
walked_unsent d left w =
    let is = w.reread.left_is in
    let o = loaded_unsent d w.loaded (loaded_then d (settled d) w.loaded (settled_loaded d)
    (stop_loaded (settled d) w.loaded w.all_taken.stop w.all_taken.told_by)) in record {
      terms_are = ap (λ (x : DriverView). x.terms) is ∙ o.terms_are;
      layout_is = ap (λ (x : DriverView). x.layout) is ∙ o.layout_is;
      commands_are = ap (λ (x : DriverView). commands x.acts) is ∙ commands-append w.loaded.acts w.reread.again
          ∙ ap (λ l. commands w.loaded.acts ++ l) (again_none w.loaded w.reread.again w.reread.each)
          ∙ append-nil (commands w.loaded.acts) ∙ o.commands_are;
      sent_are = ap (λ (x : DriverView). x.sent) is ∙ o.sent_are;
      stores_are = ap (λ (x : DriverView). x.next_stores) is ∙ o.stores_are;
    }

looked_unsent : (f : Option ClientFault) (d left : DriverView) → IsLookedAt f d left → IsUnsent d left
looked_unsent None d left w = walked_unsent d left w
looked_unsent (Some f) d left is =
    let o = loaded_unsent d (settled d) (settled_loaded d) in record {
      terms_are = ap (λ (x : DriverView). x.terms) is ∙ o.terms_are;
      layout_is = ap (λ (x : DriverView). x.layout) is ∙ o.layout_is;
      commands_are = ap (λ (x : DriverView). commands x.acts) is ∙ o.commands_are;
      sent_are = ap (λ (x : DriverView). x.sent) is ∙ o.sent_are;
      stores_are = ap (λ (x : DriverView). x.next_stores) is ∙ o.stores_are;
    }

unsent_goes : (d left : DriverHas) → left ≡ with_view d left.view → IsUnsent d.view left.view
    → GoesOn d 0 left
unsent_goes d left is o = goes_none d left (ap (λ (x : DriverHas). x.table) is) o.terms_are o.layout_is
    o.commands_are o.sent_are o.stores_are

pub describe_done : (d : DriverHas) (id first : ℕ) (posted : Posted) (left : DriverHas)
    → DescribeAnswers d id first (Ok posted) left → HasTried d (DescribeRegion id first) (Done Nothing) left
describe_done d id first posted left o =
    let w = walked_unsent d.view o.walked o.walk in
    let is = ap (λ (x : DriverHas). x.view) o.left_is in record {
      answer = record { granted = o.done.granted; told_is = refl; can_tell = tt; client_is = o.done.client_is };
      goes = goes_none d left (ap (λ (x : DriverHas). x.table) o.left_is)
          (ap (λ (x : DriverView). x.terms) is ∙ w.terms_are) (ap (λ (x : DriverView). x.layout) is ∙ w.layout_is)
          (ap (λ (x : DriverView). commands x.acts) is ∙ commands-append o.walked.acts (Chain id first ∷ [])
          ∙ append-nil (commands o.walked.acts) ∙ w.commands_are)
          (ap (λ (x : DriverView). x.sent) is ∙ w.sent_are)
          (ap (λ (x : DriverView). x.next_stores) is ∙ w.stores_are);
    }

not_described : (d left : DriverHas) (id first : ℕ) (f : DriverFault)
    → option_map told (refusal_of (client_in d) (DescribeRegion id first)) ≡ Some f
    → IsLookedAt (start_refusal d id first) d.view left.view → client_in left ≡ client_in d
    → left ≡ with_view d left.view → HasTried d (DescribeRegion id first) (answer_of f) left
not_described d left id first f is looked client left_is =
    tried_again d left (DescribeRegion id first) (answer_of f)
    (refused_so (client_in d) (DescribeRegion id first) f (client_in left) is client)
    (unsent_goes d left left_is (looked_unsent (start_refusal d id first) d.view left.view looked))

pub describe_not : (d : DriverHas) (id first : ℕ) (fault : DriverFault) (left : DriverHas)
    → DescribeAnswers d id first (Err fault) left
    → HasTried d (DescribeRegion id first) (answer_of fault) left
describe_not d id first (driver.Asked request reply) left o =
    let s = asked_stays d left request reply o.0 o.1 in tried_again d left (DescribeRegion id first) Again s.0 s.1
describe_not d id first (driver.Busy stop next) left o =
    let loaded = loaded_then d.view (settled d.view) left.view (settled_loaded d.view)
    (stop_loaded (settled d.view) left.view stop o.behind.told_by) in
    tried_again d left (DescribeRegion id first) Again o.client_is
    (unsent_goes d left o.left_is (loaded_unsent d.view left.view loaded))
describe_not d id first (driver.Refused f) left o =
    not_described d left id first (driver.Refused f) o.refused o.looked o.client_is o.left_is
describe_not d id first (driver.PageOut key) left o =
    not_described d left id first (driver.PageOut key) o.refused o.looked o.client_is o.left_is
describe_not d id first fault left o = absurd o
