-- Heads that are told of each change of a device's pictures show them.
use Rattle.std.proofs.Common.{◌≡◌, ℕ, ◌≤◌, arith, refl, sym, ap, subst, ◌∙◌, Option, Some, None, List, [], ◌∷◌, IsSome, IfSome, is_some, Ok, Err, Bool, true, false}
use Rattle.std.proofs.lemmas.List.Elements.{All-nil, All-cons}
use Rattle.std.specs.Ordering.{nat_cmp}
use Rattle.svga_io.specs.Rising.{Rises}
use Rattle.std.specs.Cmp.{nat_cmp_total as total}
use Rattle.std.specs.FinMap as maps
use Rattle.std.specs.FinMap.{nat_cmp-IsAntisymmetric as exact}
use Rattle.std.specs.Prelude.{option_map}
use Rattle.svga_cmd.proofs.Maps.{by_key, get_kept, get_other, get_removed, get_same}
use Rattle.svga_head.specs.Showing.{AllMay, AllShow, IsPlugShowing, IsShowing, KeepsShowing, ShowsEach, WasDropped}
use Rattle.svga_model.specs.Pictures.{Pictures}
use Rattle.svga_head.specs.Changes.{IsOnPicture, painted_over, painted_picture, painted_rows, with_picture, without_picture}
use Rattle.svga_head.specs.HeadStates.{HeadState}
use Rattle.svga_head.specs.PlugStates.{PlugState, Plugged, DroppedFault, DroppedMemory, Empty}
use Rattle.svga_head.specs.Plugs.{IfPlugged, IsPlugTold, plug_state}
use Rattle.svga_head.specs.Telling.{Answer, IsTold}
use Rattle.svga_head.specs.declared.fault.HeadFault.TheVariants.{Failed, Memory}
use Rattle.svga_head.specs.declared.plug.PlugOf.{PlugOf}
use Rattle.svga_head.specs.declared.plug.PlugOf.TheVariants as plug

-- a change of these pictures makes the same of those of a head that shows each of them
abbrev pub ChangesAlike : (Pictures → Pictures) → Pictures → Type 0
ChangesAlike change ps = (qs : Pictures) → ShowsEach ps qs → ShowsEach (change ps) (change qs)

insert_alike : (ps qs : Pictures) (id : ℕ) (rows : List (List ℕ)) → ShowsEach ps qs → ShowsEach (maps.insert ps id rows) (maps.insert qs id rows)
insert_alike ps qs id rows each q there = by_key total exact q id (maps.get (maps.insert qs id rows) q ≡ maps.get (maps.insert ps id rows) q)
    (λ is. subst (λ k. maps.get (maps.insert qs id rows) k ≡ maps.get (maps.insert ps id rows) k) (sym is)
    (get_same total exact qs id rows ∙ sym (get_same total exact ps id rows)))
    (λ ne. get_other total exact qs id q rows ne
    ∙ (each q (subst IsSome (get_other total exact ps id q rows ne) there) ∙ sym (get_other total exact ps id q rows ne)))

pub show_alike : (id width height : ℕ) (ps : Pictures) → ChangesAlike (with_picture id width height) ps
show_alike id width height ps qs each = insert_alike ps qs id _ each

pub hide_alike : (id : ℕ) (ps : Pictures) → ChangesAlike (without_picture id) ps
hide_alike id ps qs each q there = by_key total exact q id (maps.get (maps.remove qs id) q ≡ maps.get (maps.remove ps id) q)
    (λ is. subst (λ k. maps.get (maps.remove qs id) k ≡ maps.get (maps.remove ps id) k) (sym is)
    (get_removed total exact qs id ∙ sym (get_removed total exact ps id)))
    (λ ne. get_kept total exact qs id q ne
    ∙ (each q (subst IsSome (get_kept total exact ps id q ne) there) ∙ sym (get_kept total exact ps id q ne)))

-- where the picture that is painted is there
pub paint_alike : (id x y : ℕ) (cs : List ℕ) (ps : Pictures) → IsSome (maps.get ps id) → ChangesAlike (painted_picture id x y cs) ps
paint_alike id x y cs ps there qs each = go (maps.get ps id) there (each id there) where
  go : (o : Option (List (List ℕ))) → IsSome o → maps.get qs id ≡ o → ShowsEach (painted_over id o x y cs ps) (painted_picture id x y cs qs)
  go None none e = cc
  go (Some rows) some e = subst (λ o. ShowsEach (maps.insert ps id (painted_rows x y cs rows)) (painted_over id o x y cs qs)) (sym e) (insert_alike ps qs id (painted_rows x y cs rows) each)

-- no screen is defined yet
nothing_shown : (qs : Pictures) → ShowsEach maps.empty qs
nothing_shown qs id there = cc (there, ap is_some (maps.get-empty {X = List (List ℕ)} nat_cmp id))

none_shown : (o : Option Pictures) → IfSome o (ShowsEach maps.empty)
none_shown None = tt
none_shown (Some qs) = nothing_shown qs

begun_plug : (p : PlugState) → IsPlugShowing maps.empty p p
begun_plug (Plugged a) = record { told = refl; each = none_shown a.pictures; alone = λ e. e; faults = omega arith; refusals = omega arith }
begun_plug (DroppedFault a) = refl
begun_plug (DroppedMemory a) = refl
begun_plug Empty = refl

-- before any screen is defined, heads show the pictures as they were handed in
pub begun : (ps : List PlugState) → AllShow maps.empty ps ps
begun [] = tt
begun (p ∷ ps) = (begun_plug p, begun ps)

each_after : (change : Pictures → Pictures) (ps : Pictures) → ChangesAlike change ps → (o : Option Pictures) → IfSome o (ShowsEach ps) → IfSome (option_map change o) (ShowsEach (change ps))
each_after change ps alike None h = tt
each_after change ps alike (Some qs) h = alike qs h

-- a head that did what it was told
head_told : (change : Pictures → Pictures) (ps : Pictures) → ChangesAlike change ps → (a b c : HeadState) → IsShowing ps a b → IsTold change b c (Ok tt) → IsShowing (change ps) a c
head_told change ps alike a b c s t = record {
  told = t.told ∙ s.told;
  each = subst (λ o. IfSome o (ShowsEach (change ps))) (sym t.shows) (each_after change ps alike b.pictures s.each);
  alone = λ e. t.shows ∙ ap (option_map change) (s.alone e);
  faults = omega (arith, s.faults, t.faults);
  refusals = omega (arith, s.refusals, t.refusals);
}

rises_later : (a b c : ℕ) → a ≤ b → Rises b c → Rises a c
rises_later a b c l r = grind (arith)

-- a head that answered a fault
head_dropped : (change : Pictures → Pictures) (ps : Pictures) (count : HeadState → ℕ) (r : Answer) (a b c : HeadState) → IsShowing ps a b → IsTold change b c r → count a ≤ count b → Rises (count b) (count c) → WasDropped count a c
head_dropped change ps count r a b c s t l rose = record {
  told = t.told ∙ s.told;
  faults = omega (arith, s.faults, t.faults);
  refusals = omega (arith, s.refusals, t.refusals);
  rose = rises_later (count a) (count b) (count c) l rose;
}

abbrev is_plugged : PlugState → Bool
is_plugged (Plugged a) = true
is_plugged (DroppedFault a) = false
is_plugged (DroppedMemory a) = false
is_plugged Empty = false

module _ {B : Type 0} (state : B → HeadState) (change : Pictures → Pictures) where
  -- a plug whose head isn't plugged in stays
  unplugged_told : (p q : PlugOf B) (now : PlugState) → is_plugged now ≡ false → plug_state state p ≡ now → IsPlugTold state change p q → plug_state state q ≡ now
  unplugged_told (plug.Plugged b) q now out e t = cc (ap is_plugged e, out)
  unplugged_told (plug.DroppedFault b) q now out e t = ap (plug_state state) t ∙ e
  unplugged_told (plug.DroppedMemory b) q now out e t = ap (plug_state state) t ∙ e
  unplugged_told plug.Empty q now out e t = ap (plug_state state) t ∙ e

  module _ (ps : Pictures) (alike : ChangesAlike change ps) where
    plug_told : (m : PlugState) (p q : PlugOf B) → IsPlugShowing ps m (plug_state state p) → IsPlugTold state change p q → IsPlugShowing (change ps) m (plug_state state q)
    plug_told (Plugged a) (plug.Plugged b) (plug.Plugged c) f t = head_told change ps alike a (state b) (state c) f t
    plug_told (Plugged a) (plug.Plugged b) (plug.DroppedFault c) f t = head_dropped change ps (λ h. h.faults) (Err Failed) a (state b) (state c) f t f.faults (t.failed refl)
    plug_told (Plugged a) (plug.Plugged b) (plug.DroppedMemory c) f t = head_dropped change ps (λ h. h.refusals) (Err Memory) a (state b) (state c) f t f.refusals (t.memory refl)
    plug_told (Plugged a) (plug.Plugged b) plug.Empty f t = absurd t
    plug_told (Plugged a) (plug.DroppedFault b) q f t = subst (λ r. IsPlugShowing (change ps) (Plugged a) (plug_state state r)) (sym t) f
    plug_told (Plugged a) (plug.DroppedMemory b) q f t = subst (λ r. IsPlugShowing (change ps) (Plugged a) (plug_state state r)) (sym t) f
    plug_told (Plugged a) plug.Empty q f t = absurd f
    plug_told (DroppedFault a) p q f t = unplugged_told p q (DroppedFault a) refl f t
    plug_told (DroppedMemory a) p q f t = unplugged_told p q (DroppedMemory a) refl f t
    plug_told Empty p q f t = unplugged_told p q Empty refl f t

    -- heads that are told of a change of the device's pictures still show them
    pub told_showing : KeepsShowing state change ps
    told_showing [] [] [] f t = tt
    told_showing [] [] (q ∷ news) f t = absurd t
    told_showing [] (p ∷ olds) news f t = absurd f
    told_showing (m ∷ first) [] news f t = absurd f
    told_showing (m ∷ first) (p ∷ olds) [] f t = absurd t
    told_showing (m ∷ first) (p ∷ olds) (q ∷ news) f t = (plug_told m p q f.0 t.0, told_showing first olds news f.1 t.1)

-- what holds of each head that shows the pictures where it tells them
module _ {B : Type 0} (state : B → HeadState) (ps : Pictures) (P : Pictures → Type 0) (if_each : (qs : Pictures) → ShowsEach ps qs → P qs) where
  told_of : (o : Option Pictures) → IfSome o (ShowsEach ps) → IfSome o P
  told_of None h = tt
  told_of (Some qs) h = if_each qs h

  plug_showing : (m : PlugState) (p : PlugOf B) → IsPlugShowing ps m (plug_state state p) → IfPlugged state (λ h. IfSome h.pictures P) p
  plug_showing (Plugged a) (plug.Plugged b) f = told_of (state b).pictures f.each
  plug_showing (DroppedFault a) (plug.Plugged b) f = cc f
  plug_showing (DroppedMemory a) (plug.Plugged b) f = cc f
  plug_showing Empty (plug.Plugged b) f = cc f
  plug_showing m (plug.DroppedFault b) f = tt
  plug_showing m (plug.DroppedMemory b) f = tt
  plug_showing m plug.Empty f = tt

  pub all_may : AllMay state (λ h. IfSome h.pictures P) ps
  all_may [] [] f = All-nil (IfPlugged state (λ h. IfSome h.pictures P))
  all_may [] (p ∷ plugs) f = absurd f
  all_may (m ∷ first) [] f = absurd f
  all_may (m ∷ first) (p ∷ plugs) f = All-cons (IfPlugged state (λ h. IfSome h.pictures P)) p plugs (plug_showing m p f.0) (all_may first plugs f.1)

-- where the device shows a picture of this id, so does the head
pub may_hide : (ps : Pictures) (id : ℕ) → IsSome (maps.get ps id) → (qs : Pictures) → ShowsEach ps qs → IsSome (maps.get qs id)
may_hide ps id there qs each = subst IsSome (sym (each id there)) there

-- and where so many colours lie on it, so they do on the head's
pub may_paint : (ps : Pictures) (id x y len : ℕ) → IsOnPicture (maps.get ps id) x y len → (qs : Pictures) → ShowsEach ps qs → IsOnPicture (maps.get qs id) x y len
may_paint ps id x y len on qs each = go (maps.get ps id) on (each id) where
  go : (o : Option (List (List ℕ))) → IsOnPicture o x y len → (IsSome o → maps.get qs id ≡ o) → IsOnPicture (maps.get qs id) x y len
  go None none e = absurd none
  go (Some rows) on' e = subst (λ r. IsOnPicture r x y len) (sym (e refl)) on'
