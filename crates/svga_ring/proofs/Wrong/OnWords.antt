-- Steps of wrong ends leave no sound state.
use Rattle.std.proofs.Common.{◌≡◌, ◌≢◌, ℕ, ◌+◌, ◌≤◌, List, [], ◌∷◌, ◌++◌, length, take, slice_index, slice_set, All, sym, ap, subst, ◌∙◌, arith, length-append, add-one, get_or, get_or-set_other, take-suc}
use Rattle.std.proofs.lemmas.List.{append_cancel_left}
use Rattle.svga_cmd.specs.Spelling.{Spells, spelling}
use Rattle.svga_cmd.specs.WellFormed.{IsWellFormed}
use Rattle.svga_cmd.specs.declared.command.Command.{Command}
use Rattle.svga_cmd.specs.declared.command.Command.TheVariants.{Fence}
use Rattle.svga_cmd.specs.declared.session.Way.{Way}
use Rattle.svga_model.proofs.GrammarFronts.{spelling_all-push}
use Rattle.svga_model.specs.Sentences.{spelling_all}
use Rattle.svga_ring.proofs.Words.Cells.{last_word}
use Rattle.svga_ring.proofs.Words.Turns.{is_cell}
use Rattle.svga_ring.specs.Core.{put_count}
use Rattle.svga_ring.specs.Layouts.{IsLayout, Layout, ring_dwords, word_cell}
use Rattle.svga_ring.specs.SharedTable.{first_cell}
use Rattle.svga_ring.specs.SoundWords.{AreInOrder, AreInRing}
use Rattle.svga_ring.specs.Views.{DriverView}
use Rattle.svga_ring.specs.WrongSteps.{straight_offset}

-- A word that is written straight on past the ring's end doesn't stand in its cell, which keeps another one.
pub not_in_ring : (d : DriverView) {lay : Layout} {words taken : List ℕ} {stop word : ℕ} → d.layout ≡ lay
    → IsLayout lay → AreInRing lay words d.sent d.pending taken stop → length taken ≤ length d.sent
    → ring_dwords d.layout ≤ straight_offset d → slice_index words (word_cell d.layout (put_count d)) ≢ word
    → AreInRing lay (slice_set words (first_cell + straight_offset d) word) d.sent (d.pending ++ word ∷ [])
    taken stop
    → ⊥
not_in_ring d {lay} {words} {taken} {stop} {word} one is before behind past other ring =
    let last : ℕ = put_count d in
    let straight : ℕ = first_cell + straight_offset d in
    let own : ℕ = word_cell d.layout last in
    let cell = is_cell d.layout last (subst (λ l. IsLayout l) (sym one) is) in
    let apart : own ≢ straight = λ q. omega (arith, q, cell.below) in
    let after : List ℕ = slice_set words straight word in
    let kept : slice_index after own ≡ slice_index words own = get_or-set_other words straight own word 0
    apart in
    let same_cell : slice_index after own ≡ slice_index after (word_cell lay last) =
    ap (λ l. slice_index after (word_cell l last)) one in
    let stands = ring.cells last (omega arith) (omega (arith, length-append d.pending (word ∷ []))) in
    other (sym kept ∙ same_cell ∙ stands ∙ last_word d.sent d.pending word last (omega arith))

-- Where one command more is done, what was read is its spelling.
pub read_whole : {way : Way} {cs : List Command} {sent taken read : List ℕ} {done next : ℕ}
    → All IsWellFormed cs
    → AreInOrder way cs sent taken read done next → AreInOrder way cs sent (taken ++ read) [] (done + 1) next
    → (c : Command) × Spells c read
read_whole {cs = cs} {taken = taken} {read = read} {done = done} all before after =
    let c : Command = get_or cs done (Fence 0) in
    let there : done + 1 ≤ length cs = after.done_low in
    let front : take (done + 1) cs ≡ take done cs ++ c ∷ [] =
    ap (λ n. take n cs) (add-one done) ∙ take-suc cs done (Fence 0) (omega arith) in
    let words : spelling_all (take (done + 1) cs) ≡ taken ++ spelling c =
    ap (λ l. spelling_all l) front ∙ spelling_all-push (take done cs) c
    ∙ ap (λ l. l ++ spelling c) (sym before.taken_whole) in
    let spelled : read ≡ spelling c = append_cancel_left taken read (spelling c)
    (after.taken_whole ∙ words) in
    (c, record { well_formed = all done (Fence 0) (omega arith); words = spelled })
