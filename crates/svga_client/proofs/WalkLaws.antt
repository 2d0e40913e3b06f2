-- Where the reading of a chain enters lent table pages alone, each page that it comes to is lent.
use Rattle.std.proofs.Common.{◌≡◌, ℕ, zero, suc, ◌+◌, List, [], ◌∷◌, Bool, true, false, cond, nat_lt, ◌==◌, ◌&&◌, ◌||◌, if◌then◌else◌, refl, sym, ap, ◌∙◌, Option, Some, None}
use Rattle.std.proofs.lemmas.Option.{none-some}
use Rattle.std.specs.FinSet as set
use Rattle.std.specs.FinSet.{FinSet}
use Rattle.std.specs.List.{cons_option}
use Rattle.std.specs.Ordering.{eq_by_cmp}
use Rattle.svga_cmd.proofs.KeyLaws.{keys_exact, keys_total}
use Rattle.svga_cmd.proofs.Maps.{one_key}
use Rattle.svga_cmd.specs.Pages.{key_cmp}
use Rattle.svga_cmd.specs.declared.constants.TheConstants.{LAST_PAIR, MAX_DESCRIPTORS}
use Rattle.svga_cmd.specs.declared.page.PageKey.{PageKey}
use Rattle.svga_cmd.specs.declared.page.PageKey.TheVariants.{Guest}
use Rattle.svga_model.proofs.TouchWalks.{is_entered}
use Rattle.svga_model.specs.Acts.{Chain}
use Rattle.svga_model.specs.Clients.{first_table_out}
use Rattle.svga_model.specs.States.{State}
use Rattle.svga_model.specs.Touches.{Touches, chain_walk}
use Rattle.svga_model.specs.Walks.{Descriptor, TablePosition, Tables, descriptor_at, entered, is_good_link, is_good_run, next_position, positions_from, tables_of}

-- the table page in which the walk goes on below its top is lent
abbrev IsLentAt : FinSet key_cmp → Option TablePosition → Type 0
IsLentAt lent None = Unit {0}
IsLentAt lent (Some at) = (at.pair == 0) ≡ false → set.contains lent (Guest at.table) ≡ true

next_lent : (lent : FinSet key_cmp) (guest : ℕ) (at : TablePosition) (links runs : Bool)
    → set.contains lent (Guest at.table) ≡ true
    → IsLentAt lent (if links then Some (record { table = guest; pair = 0 }) else
    if runs then Some (record { table = at.table; pair = at.pair + 1 }) else None)
next_lent lent guest at true runs here = λ below. absurd (cc below)
next_lent lent guest at false true here = λ below. here
next_lent lent guest at false false here = tt

-- one position of it, in front of others
step_lent : (guest : ℕ) (d : Descriptor) (at : TablePosition) (lent : FinSet key_cmp) (key : PageKey)
    (rest : List TablePosition) → IsLentAt lent (Some at)
    → first_table_out lent (entered (at ∷ rest)) ≡ None → is_entered key (at ∷ rest) ≡ true
    → (IsLentAt lent (next_position guest at d) → first_table_out lent (entered rest) ≡ None
    → is_entered key rest ≡ true → set.contains lent key ≡ true)
    → set.contains lent key ≡ true
step_lent guest d at lent key rest before none is further =
    top (at.pair == 0) refl (set.contains lent (Guest at.table)) refl
  where
    others : Option PageKey
    others = first_table_out lent (entered rest)

    table_out : Bool → Option PageKey
    table_out first = if first then cond (set.contains lent (Guest at.table)) others
        (Some (Guest at.table)) else others

    split : (first : Bool)
        → first_table_out lent (cons_option (if first then Some at.table else None) (entered rest))
        ≡ table_out first
    split true = refl
    split false = refl

    opened : (first : Bool) → (at.pair == 0) ≡ first → table_out first ≡ None
    opened first e = sym (split first)
        ∙ sym (ap (λ b. first_table_out lent (cons_option (if b then Some at.table else None) (entered rest)))
        e) ∙ none

    on : set.contains lent (Guest at.table) ≡ true → others ≡ None
        → (same : Bool) → eq_by_cmp key_cmp key (Guest at.table) ≡ same → (same || is_entered key rest) ≡ true
        → set.contains lent key ≡ true
    on here off true e has = ap (set.contains lent) (one_key keys_total keys_exact key (Guest at.table) e)
        ∙ here
    on here off false e has = further (next_lent lent d.page at (is_good_link guest d)
        (is_good_run guest d && nat_lt at.pair LAST_PAIR) here) off has

    found : set.contains lent (Guest at.table) ≡ true → others ≡ None → set.contains lent key ≡ true
    found here off = on here off (eq_by_cmp key_cmp key (Guest at.table)) refl is

    top : (first : Bool) → (at.pair == 0) ≡ first → (has : Bool) → set.contains lent (Guest at.table) ≡ has
        → set.contains lent key ≡ true
    top true e true here = found here (sym (ap (λ b. cond b others (Some (Guest at.table))) here)
        ∙ opened true e)
    top true e false away = absurd (none-some (Guest at.table)
        (sym (opened true e) ∙ ap (λ b. cond b others (Some (Guest at.table))) away))
    top false e has h = found (before e) (opened false e)

from_lent : (n guest : ℕ) (tables : Tables) (at : Option TablePosition) (lent : FinSet key_cmp)
    (key : PageKey)
    → IsLentAt lent at → first_table_out lent (entered (positions_from n guest tables at)) ≡ None
    → is_entered key (positions_from n guest tables at) ≡ true → set.contains lent key ≡ true
unfolding positions_from
from_lent zero guest tables at lent key before none is = absurd (cc is)
from_lent (suc n) guest tables None lent key before none is = absurd (cc is)
from_lent (suc n) guest tables (Some at) lent key before none is =
    step_lent guest (descriptor_at tables at) at lent key
    (positions_from n guest tables (next_position guest at (descriptor_at tables at))) before none is
    (λ below. from_lent n guest tables (next_position guest at (descriptor_at tables at)) lent key below)

pub tables_lent : (s : State) (id first : ℕ) (lent : FinSet key_cmp) (key : PageKey)
    → first_table_out lent (entered (chain_walk s first)) ≡ None → Touches s (Chain id first) key
    → set.contains lent key ≡ true
tables_lent s id first lent key none touched = go (first == 0) none touched where
  walked : List TablePosition
  walked = positions_from MAX_DESCRIPTORS s.kept.limits.pages (tables_of s.memory)
      (Some (record { table = first; pair = 0 }))

  go : (b : Bool) → first_table_out lent (entered (if b then [] else walked)) ≡ None
      → is_entered key (if b then [] else walked) ≡ true → set.contains lent key ≡ true
  go true off is = absurd (cc is)
  go false off is = from_lent MAX_DESCRIPTORS s.kept.limits.pages (tables_of s.memory)
      (Some (record { table = first; pair = 0 })) lent key (λ below. absurd (cc below)) off is
