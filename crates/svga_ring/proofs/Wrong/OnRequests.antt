-- Steps of wrong ends on requests and on words that are sent leave no sound state.
use Rattle.std.proofs.Common.{◌≡◌, ◌≢◌, ℕ, ◌+◌, ◌≤◌, List, [], ◌∷◌, ◌++◌, length, get_or, slice_index, sym, ap, subst, ◌∙◌, arith, append-nil, length-append, get_or-set_other}
use Rattle.std.proofs.Math.Seq.{get_or-append_seam}
use Rattle.svga_cmd.specs.declared.page.PageKey.{PageKey}
use Rattle.svga_cmd.specs.declared.session.Session.{Session}
use Rattle.svga_model.specs.Acts.{Act}
use Rattle.svga_model.specs.States.{State}
use Rattle.svga_ring.proofs.Words.Cells.{not_cell}
use Rattle.svga_ring.proofs.Wrong.OnPages.{none_in_hand}
use Rattle.svga_ring.specs.Core.{Core, put_count}
use Rattle.svga_ring.specs.Layouts.{Layout, word_cell}
use Rattle.svga_ring.specs.Requests.{IsChainOut, Request}
use Rattle.svga_ring.specs.SharedTable.{next_word}
use Rattle.svga_ring.specs.Sound.{IsSoundOfWords}
use Rattle.svga_ring.specs.SoundPages.{TouchesInHand}
use Rattle.svga_ring.specs.WrongSteps.{sending_ahead}

-- where no word is read and no chain is out, no act in hand touches a page
pub not_behind : {s : State} {acts : List Act} {done : ℕ} {read : List ℕ} {request wanted : Request}
    {answered : ℕ}
    {key : PageKey}
    → read ≡ [] → (IsChainOut request answered → ⊥)
    → TouchesInHand s acts done read request wanted answered key → ⊥
not_behind {s} {acts} {done} {read} {request} {wanted} {answered} {key} none off touched =
    none_in_hand off (subst (λ (l : List ℕ). TouchesInHand s acts done l request wanted answered key) none
    touched)

-- the last word of those that are sent ahead
word_ahead : (sent pending : List ℕ) (word : ℕ)
    → get_or (((sent ++ pending) ++ word ∷ []) ++ []) (length sent + length pending) 0 ≡ word
word_ahead sent pending word =
    ap (λ l. get_or l (length sent + length pending) 0) (append-nil ((sent ++ pending) ++ word ∷ []))
    ∙ ap (λ n. get_or ((sent ++ pending) ++ word ∷ []) n 0) (sym (length-append sent pending))
    ∙ get_or-append_seam (sent ++ pending) word [] 0

pub not_sent_ahead : (k : Session) (c : Core) (word : ℕ) → IsSoundOfWords k c
    → slice_index c.words (word_cell c.driver.layout (put_count c.driver)) ≢ word
    → IsSoundOfWords k (sending_ahead word c) → ⊥
not_sent_ahead k c word o other left =
    let d = c.driver in
    let e = c.device in
    let lay = e.layout in
    let n : ℕ = put_count d in
    let low : length e.taken ≤ n = omega (arith, o.order.read_known, o.order.known_sent) in
    let longer = length-append (d.sent ++ d.pending) (word ∷ []) in
    let more = length-append d.sent d.pending in
    let stands = left.ring.cells n low (omega (arith, longer, more)) in
    let here = get_or-set_other c.words next_word (word_cell lay n) _ 0
    (not_cell lay n next_word o.session.layout (omega arith)) in
    other (ap (λ (l : Layout). slice_index c.words (word_cell l n)) o.session.one_layout ∙ sym here ∙ stands
    ∙ word_ahead d.sent d.pending word)
