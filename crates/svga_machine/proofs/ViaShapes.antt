-- The numbers that a shape's remap by VIA_GMR reads are those of each state that has this shape.
use Rattle.std.proofs.Common.{◌≡◌, ℕ, ◌≤◌, List, ap, refl, sym, ◌∙◌, length, take, arith}
use Rattle.std.proofs.lemmas.List.{length-take}
use Rattle.std.specs.Prelude.{Result, Ok, Err, OnOk}
use Rattle.svga_cmd.specs.Lent.{entries_of}
use Rattle.svga_cmd.specs.Limits.{frame_page_count}
use Rattle.svga_cmd.specs.Pages.{Memory}
use Rattle.svga_cmd.specs.declared.command.Command.TheVariants.{RemapGmr2}
use Rattle.svga_cmd.specs.declared.gmrfb.GuestPtr.{GuestPtr}
use Rattle.svga_cmd.specs.declared.remap.EntriesRef.{EntriesRef}
use Rattle.svga_cmd.specs.declared.remap.EntriesRef.TheVariants as lent
use Rattle.svga_model.specs.Faults.{ReadsNumbers}
use Rattle.svga_model.specs.Memories.{region_byte}
use Rattle.svga_model.specs.States.{State, shape_of}
use Rattle.svga_model.specs.Regions.{region_places}
use Rattle.svga_region.specs.RegionSet.{RegionSet}
use Rattle.svga_shape.specs.ShapeSet.{AreOfLimits, ShapeSet, shape_in}
use Rattle.svga_machine.proofs.ViaLaws.{words}
use Rattle.svga_machine.proofs.ViaNumbers.{words_from}

-- so many words that were read from the regions of the shape
pub words_are : (s : State) (set : ShapeSet) (regions : RegionSet) (m : Memory) (at : GuestPtr) (count n : ℕ) → shape_of s.kept ≡ shape_in set → AreOfLimits set → regions ≡ set.regions → s.memory ≡ m
    → n ≡ count → words_from (region_byte m (region_places regions.frame regions.regions at.region)) at.offset n ≡ words s at count
words_are s set regions m at count n same valid is there long =
    let frame : regions.frame ≡ frame_page_count s.kept.limits = ap (λ r. r.frame) is ∙ valid.frame ∙ ap (λ σ. frame_page_count σ.limits) (sym same) in
    let places : regions.regions ≡ s.kept.regions = ap (λ r. r.regions) is ∙ ap (λ σ. σ.regions) (sym same) in
    λ i. words_from (region_byte (sym there i) (region_places (frame i) (places i) at.region)) at.offset (long i)

-- the front of a list that is long enough
pub front_length : (numbers : List ℕ) (count : ℕ) → count ≤ length numbers → length (take count numbers) ≡ count
front_length numbers count few = omega (arith, length-take count numbers, few)

-- what follows from what holds on an answer
pub on_ok_map : {A E : Type 0} (P Q : Type 0) (r : Result A E) → (P → Q) → OnOk r P → OnOk r Q
on_ok_map P Q (Ok a) follows holds = follows holds
on_ok_map P Q (Err f) follows holds = holds

-- entries that are read neither way are named
pub named_entries : (region offset pages : ℕ) (e : EntriesRef) → ((at : GuestPtr) → e ≡ lent.ViaGmr32 at → ⊥) → ((at : GuestPtr) → e ≡ lent.ViaGmr64 at → ⊥)
    → ReadsNumbers (RemapGmr2 region offset pages (entries_of e)) → ⊥
named_entries region offset pages (lent.Ppn32 list) other32 other64 reads = absurd cc
named_entries region offset pages (lent.Ppn64 list) other32 other64 reads = absurd cc
named_entries region offset pages (lent.SinglePpn32 page) other32 other64 reads = absurd cc
named_entries region offset pages (lent.SinglePpn64 low high) other32 other64 reads = absurd cc
named_entries region offset pages (lent.ViaGmr32 at) other32 other64 reads = other32 at refl
named_entries region offset pages (lent.ViaGmr64 at) other32 other64 reads = other64 at refl
