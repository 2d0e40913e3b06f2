-- How many words a command has, by what is known of its first words.
use Rattle.std.proofs.Common.{◌≡◌, ℕ, ◌+◌, ◌≤◌, ◌<◌, List, ◌++◌, length, slice_index, refl, Option, Some, None, arith, inl, inr, subst}
use Rattle.std.proofs.lemmas.Bool.Decides.{nat_tests}
use Rattle.svga_cmd.specs.Spelling.{spelling}
use Rattle.svga_cmd.specs.WellFormed.{IsWellFormed}
use Rattle.svga_cmd.specs.declared.command.Command.{Command}
use Rattle.svga_cmd.specs.declared.command.Command.TheVariants.{Update, Fence, DefineScreen, DestroyScreen, DefineGmrfb, BlitToScreen, BlitToGmrfb, DefineGmr2, RemapGmr2}
use Rattle.svga_cmd.specs.declared.constants.TheConstants.{MAX_COMMAND_WORDS, MAX_ENTRY_WORDS, MAX_REMAP_PAGES}
use Rattle.svga_cmd.specs.declared.remap.RemapData.{RemapData}
use Rattle.svga_cmd.specs.declared.remap.RemapData.TheVariants.{Ppn32, Ppn64, SinglePpn32, SinglePpn64, ViaGmr32, ViaGmr64}
use Rattle.svga_cmd.specs.declared.screen.Backing.{Backing}
use Rattle.svga_cmd.specs.declared.screen.ScreenDef.{ScreenDef}
use Rattle.svga_model.specs.Accepted.{AreAccepted}
use Rattle.svga_model.specs.Lengths.{count_by_id, entry_count, whole_length}
use Rattle.svga_model.specs.RefusedWords.{refusal}
use Rattle.svga_model.proofs.GrammarTable.{IsKnown, update, fence, define_screen, destroy_screen, define_gmrfb, to_screen, to_gmrfb, define_gmr2, remap_gmr2, known, few_pages, le_or_lt}

entry_count-le : (flags pages : ℕ) → pages ≤ MAX_REMAP_PAGES → entry_count flags pages ≤ MAX_ENTRY_WORDS
entry_count-le flags pages h = grind (arith, nat_tests)

count_by_id-le : (id size flags pages : ℕ) → (id ≡ 42 → pages ≤ MAX_REMAP_PAGES) → IsKnown id → count_by_id id size flags pages ≤ MAX_COMMAND_WORDS
count_by_id-le id size flags pages h (update e) = rw e (omega arith)
count_by_id-le id size flags pages h (fence e) = rw e (omega arith)
count_by_id-le id size flags pages h (define_screen e) = rw e (grind (arith, nat_tests))
count_by_id-le id size flags pages h (destroy_screen e) = rw e (omega arith)
count_by_id-le id size flags pages h (define_gmrfb e) = rw e (omega arith)
count_by_id-le id size flags pages h (to_screen e) = rw e (omega arith)
count_by_id-le id size flags pages h (to_gmrfb e) = rw e (omega arith)
count_by_id-le id size flags pages h (define_gmr2 e) = rw e (omega arith)
count_by_id-le id size flags pages h (remap_gmr2 e) = rw e (omega (arith, entry_count-le flags pages (h e)))

-- no command is longer than 131,077 words
pub whole_length-le : (ws : List ℕ) → AreAccepted ws → 4 < length ws → whole_length ws ≤ MAX_COMMAND_WORDS
whole_length-le ws h five = count_by_id-le (slice_index ws 0) (slice_index ws 1) (slice_index ws 2) (slice_index ws 4)
    (λ e. few_pages (slice_index ws 4) (subst (λ id. refusal 4 id (slice_index ws 4) ≡ None) e (h 4 five))) (known (slice_index ws 0) (h 0 (omega arith)))

-- at a known id: what isn't read yet doesn't make the command so short that it had ended before
pub one_more : (n id size flags pages size' flags' pages' : ℕ) → (1 < n → size' ≡ size) → (2 < n → flags' ≡ flags) → (4 < n → pages' ≡ pages) → IsKnown id → 0 < n → n < count_by_id id size flags pages → n + 1 ≤ count_by_id id size' flags' pages'
one_more n id size flags pages size' flags' pages' a b c (update e) p l = rw e (let h = rw e at l in omega arith)
one_more n id size flags pages size' flags' pages' a b c (fence e) p l = rw e (let h = rw e at l in omega arith)
one_more n id size flags pages size' flags' pages' a b c (define_screen e) p l = rw e (let h = rw e at l in grind (arith, nat_tests))
one_more n id size flags pages size' flags' pages' a b c (destroy_screen e) p l = rw e (let h = rw e at l in omega arith)
one_more n id size flags pages size' flags' pages' a b c (define_gmrfb e) p l = rw e (let h = rw e at l in omega arith)
one_more n id size flags pages size' flags' pages' a b c (to_screen e) p l = rw e (let h = rw e at l in omega arith)
one_more n id size flags pages size' flags' pages' a b c (to_gmrfb e) p l = rw e (let h = rw e at l in omega arith)
one_more n id size flags pages size' flags' pages' a b c (define_gmr2 e) p l = rw e (let h = rw e at l in omega arith)
one_more n id size flags pages size' flags' pages' a b c (remap_gmr2 e) p l = rw e (let h = rw e at l in elim (le_or_lt n 4) [ inl few ↦ omega arith | inr more ↦ rw (b (omega arith), c more) (omega arith) ])

pub one_at_least : (ws : List ℕ) → 1 ≤ whole_length ws
one_at_least ws = one (slice_index ws 0) (slice_index ws 1) (slice_index ws 2) (slice_index ws 4) where
  one : (id size flags pages : ℕ) → 1 ≤ count_by_id id size flags pages
  one id size flags pages = grind (arith, nat_tests)

screen_length : (d : ScreenDef) (backing : Option Backing) (rest : List ℕ) → whole_length (spelling (DefineScreen (record d { backing = backing })) ++ rest) ≡ length (spelling (DefineScreen (record d { backing = backing })))
screen_length d None rest = refl
screen_length d (Some backing) rest = refl

remap_length : (region offset pages : ℕ) (entries : RemapData) → IsWellFormed (RemapGmr2 region offset pages entries) → (rest : List ℕ) → whole_length (spelling (RemapGmr2 region offset pages entries) ++ rest) ≡ length (spelling (RemapGmr2 region offset pages entries))
remap_length region offset pages (Ppn32 list) well rest = omega (arith, well.1)
remap_length region offset pages (Ppn64 list) well rest = omega (arith, well.1)
remap_length region offset pages (SinglePpn32 page) well rest = refl
remap_length region offset pages (SinglePpn64 low high) well rest = refl
remap_length region offset pages (ViaGmr32 pointer) well rest = refl
remap_length region offset pages (ViaGmr64 pointer) well rest = refl

-- whatever follows a command, its first words tell its length
pub whole_length-spelling : (c : Command) → IsWellFormed c → (rest : List ℕ) → whole_length (spelling c ++ rest) ≡ length (spelling c)
whole_length-spelling (Update x y width height) well rest = refl
whole_length-spelling (Fence value) well rest = refl
whole_length-spelling (DefineScreen d) well rest = screen_length d d.backing rest
whole_length-spelling (DestroyScreen id) well rest = refl
whole_length-spelling (DefineGmrfb g) well rest = refl
whole_length-spelling (BlitToScreen b) well rest = refl
whole_length-spelling (BlitToGmrfb b) well rest = refl
whole_length-spelling (DefineGmr2 region pages) well rest = refl
whole_length-spelling (RemapGmr2 region offset pages entries) well rest = remap_length region offset pages entries well rest
