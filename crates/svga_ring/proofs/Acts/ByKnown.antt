-- What an act does, by what the device knows of the state.
use Rattle.std.proofs.Common.{◌≡◌, ◌⊎◌, inl, inr, ℕ, zero, suc, List, [], Bool, true, false, cond, ◌||◌, ◌==◌, Option, Some, None, unwrap_or, refl, sym, ap, subst, ◌∙◌}
use Rattle.svga_cmd.specs.Pages.{page_at}
use Rattle.svga_cmd.specs.declared.page.PageKey.{PageKey}
use Rattle.svga_cmd.specs.declared.page.PageKey.TheVariants.{Guest}
use Rattle.svga_model.proofs.TouchLaws.{same_kept, same_pages, same_touches}
use Rattle.svga_model.proofs.TouchWalks.{is_entered}
use Rattle.svga_model.specs.Acts.{Act, Do, Put, Chain}
use Rattle.svga_model.specs.Memories.{page_bytes}
use Rattle.svga_model.specs.States.{Kept, State}
use Rattle.svga_model.specs.Steps.{step}
use Rattle.svga_model.specs.Touches.{AgreeOn, Touches, has_page, is_page, touched_places}
use Rattle.svga_model.specs.Walks.{TablePosition, Tables, descriptor_at, descriptor_in, next_position, positions_from, tables_of, walk}

-- the known state has what the whole one keeps, and each page that it has is as in the whole one
pub record IsKnownOf (known s : State) : Type 0 where
  pub kept : known.kept ≡ s.kept
  pub pages : (key : PageKey) (bytes : List ℕ) → page_at known.memory key ≡ Some bytes
      → bytes ≡ page_bytes s.memory key

-- each table page of the first is as in the second, or isn't there
abbrev AreKnownTables : Tables → Tables → Type 0
AreKnownTables a b = (p : ℕ) → (a p ≡ b p) ⊎ (a p ≡ [])

known_tables : (known s : State) → IsKnownOf known s
    → AreKnownTables (tables_of known.memory) (tables_of s.memory)
known_tables known s known_of p = go (page_at known.memory (Guest p)) refl where
  go : (o : Option (List ℕ)) → page_at known.memory (Guest p) ≡ o
      → (tables_of known.memory p ≡ tables_of s.memory p) ⊎ (tables_of known.memory p ≡ [])
  go None e = inr (ap (λ page. unwrap_or page []) e)
  go (Some bytes) e = inl (ap (λ page. unwrap_or page []) e ∙ known_of.pages (Guest p) bytes e)

-- a walk ends at a page that isn't there: its descriptors are (0, 0)
nothing_below : (n guest : ℕ) (tables : Tables) (at : TablePosition) (key : PageKey)
    → is_entered key (positions_from n guest tables (next_position guest at (descriptor_in [] at.pair)))
    ≡ false
unfolding positions_from
nothing_below zero guest tables at key = refl
nothing_below (suc n) guest tables at key = refl

-- the first position is entered, or one of the rest
entered_first : (a b c : Bool) → (b ≡ true → c ≡ true) → (a || b) ≡ true → (a || c) ≡ true
entered_first true b c rest e = refl
entered_first false b c rest e = rest e

entered_here : (a b c : Bool) → b ≡ false → (a || b) ≡ true → (a || c) ≡ true
entered_here true b c none e = refl
entered_here false b c none e = absurd (cc (none, e))

-- a walk over known tables enters no page that the whole one doesn't
known_places : (n guest : ℕ) (a b : Tables) (at : Option TablePosition) (key : PageKey) → AreKnownTables a b
    → is_entered key (positions_from n guest a at) ≡ true
    → is_entered key (positions_from n guest b at) ≡ true
unfolding positions_from
known_places zero guest a b at key known entered = entered
known_places (suc n) guest a b None key known entered = entered
known_places (suc n) guest a b (Some at) key known entered =
    go (known at.table) (known_places n guest a b (next_position guest at (descriptor_at b at)) key known)
  where
    here : Bool
    here = is_page key (Some (Guest at.table))

    below : Tables → List ℕ → Bool
    below tables page = is_entered key (positions_from n guest tables
        (next_position guest at (descriptor_in page at.pair)))

    go : (a at.table ≡ b at.table) ⊎ (a at.table ≡ [])
        → (below a (b at.table) ≡ true → below b (b at.table) ≡ true) → (here || below b (b at.table)) ≡ true
    go (inl same) rest = entered_first here (below a (a at.table)) (below b (b at.table))
        (λ e. rest (ap (below a) (sym same) ∙ e)) entered
    go (inr none) rest = entered_here here (below a (a at.table)) (below b (b at.table))
        (ap (below a) none ∙ nothing_below n guest a at key) entered

known_walk : (guest first : ℕ) (a b : Tables) (key : PageKey) → AreKnownTables a b
    → is_entered key (cond (first == 0) [] (walk guest a first)) ≡ true
    → is_entered key (cond (first == 0) [] (walk guest b first)) ≡ true
known_walk guest first a b key known = go (first == 0) where
  go : (none : Bool) → is_entered key (cond none [] (walk guest a first)) ≡ true
      → is_entered key (cond none [] (walk guest b first)) ≡ true
  go true entered = entered
  go false entered = known_places 4096 guest a b (Some (record { table = first; pair = 0 })) key known entered

-- What an act touches as far as the state is known it touches: a walk goes as far as the pages that are
-- known, and enters the next one.
pub known_touches : (known s : State) (x : Act) (key : PageKey) → IsKnownOf known s
    → Touches known x key → Touches s x key
known_touches known s (Do c) key known_of touched =
    subst (λ (k : Kept). has_page (touched_places k c) key ≡ true) known_of.kept touched
known_touches known s (Put other bytes) key known_of touched = touched
known_touches known s (Chain id first) key known_of touched =
    let a : Tables = tables_of known.memory in
    known_walk s.kept.limits.pages first a (tables_of s.memory) key (known_tables known s known_of)
    (subst (λ (k : Kept). is_entered key (cond (first == 0) [] (walk k.limits.pages a first)) ≡ true)
    known_of.kept touched)

-- Where all pages are known that it touches as far as the state is known, those are all that it touches, and
-- it does there what it does in the whole state.
pub record IsCut (known s : State) (x : Act) : Type 0 where
  pub touched : (key : PageKey) → Touches s x key → Touches known x key
  pub kept : (step known x).kept ≡ (step s x).kept
  pub pages : (key : PageKey) → Touches s x key
      → page_at (step known x).memory key ≡ page_at (step s x).memory key

pub cut_step : (known s : State) (x : Act) → known.kept ≡ s.kept → AgreeOn known s x → IsCut known s x
cut_step known s x kept agree =
    let known_too : (key : PageKey) → Touches s x key → Touches known x key =
    λ key touched. same_touches known s x key kept agree ∙ touched in record {
      touched = known_too;
      kept = same_kept known s x kept agree;
      pages = λ key touched. same_pages known s x key kept agree (known_too key touched);
    }
