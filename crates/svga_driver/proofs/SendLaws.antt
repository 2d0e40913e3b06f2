-- Words that are put into a reservation, one after another.
use Rattle.std.proofs.Common.{◌≡◌, ℕ, ◌+◌, ◌*◌, List, [], ◌++◌, length, take, Bool, true, false, refl, sym, ap, subst, ◌∙◌, if◌then◌else◌, arith, length-append}
use Rattle.svga_cmd.specs.Spelling.{Spells}
use Rattle.svga_cmd.specs.declared.command.Command.{Command}
use Rattle.svga_driver.specs.Sending.{AreSent}
use Rattle.svga_link.specs.Ends.{DriverSeen}
use Rattle.svga_link.specs.ReserveAnswers.{IsBegun}
use Rattle.svga_link.specs.Reserving.{goes_in_place, putting, reserving}
use Rattle.svga_link.specs.Told.{committed, with_pending}
use Rattle.svga_link.specs.declared.reserving.Reserved.{Reserved}
use Rattle.svga_ring.specs.Views.{DriverView}

-- so many of these words were put, which changes nothing else but what is pending
abbrev pub ArePut : List ℕ → DriverSeen → DriverSeen → ℕ → Type 0
ArePut words old now i =
    now ≡ record old {
      view = record old.view { pending = now.view.pending };
      words =
          old.words ++ take i words;
    }

pub pending_only : (d : DriverView) (bytes word : ℕ)
    → putting d bytes word ≡ record d { pending = (putting d bytes word).pending }
pending_only d bytes word = go (goes_in_place d bytes) where
  go : (b : Bool) → (if b then with_pending d word else d)
      ≡ record d { pending = (if b then with_pending d word else d).pending }
  go true = refl
  go false = refl

-- The words of both parts are put, and the command is sent.
pub are_sent : (e0 e1 e2 e3 e4 : DriverSeen) (front rest : List ℕ) (command : Command) (bytes : ℕ)
    (r : Reserved)
    → e0.reserved ≡ 0 → e0.words ≡ [] → bytes ≡ 4 * (length front + length rest)
    → IsBegun e0.view bytes r e1.view → e1 ≡ record e0 { view = e1.view; reserved = bytes; words = [] }
    → e2 ≡ record e1 { view = record e1.view { pending = e2.view.pending }; words = e1.words ++ front }
    → e3 ≡ record e2 { view = record e2.view { pending = e3.view.pending }; words = e2.words ++ rest }
    → (Spells command e3.words → e4 ≡ record e3 {
      view = committed e3.view command e3.words;
      reserved =
          0;
      words = [];
    })
    → Spells command (front ++ rest)
    → AreSent e0.view command (front ++ rest) e4.view × (e4 ≡ record e0 { view = e4.view })
are_sent e0 e1 e2 e3 e4 front rest command bytes r none none_put size begun at1 at2 at3 sent spells = (
  record {
    loaded = begun.loaded;
    stop = begun.stop;
    told_by = begun.told;
    enough = omega (arith, begun.enough, size, length-append front rest);
    left_is = ap (λ (e : DriverSeen). e.view) at4 ∙ (λ i. committed (view3 i) command (words3 i));
  },
  (λ i. record {
    table = table_is i;
    view = e4.view;
    reserved = (ap (λ (e : DriverSeen). e.reserved) at4 ∙ sym none) i;
    words = (ap (λ (e : DriverSeen). e.words) at4 ∙ sym none_put) i;
    pages = pages_are i;
  }),
)
  where
    words3 : e3.words ≡ front ++ rest
    words3 = ap (λ (e : DriverSeen). e.words) at3
        ∙ ap (λ ws. ws ++ rest) (ap (λ (e : DriverSeen). e.words) at2
        ∙ ap (λ ws. ws ++ front) (ap (λ (e : DriverSeen). e.words) at1))

    at4 : e4 ≡ record e3 { view = committed e3.view command e3.words; reserved = 0; words = [] }
    at4 = sent (subst (Spells command) (sym words3) spells)

    view3 : e3.view ≡ record (reserving begun.loaded bytes) { pending = e3.view.pending }
    view3 = ap (λ (e : DriverSeen). e.view) at3
        ∙ ap (λ (v : DriverView). record v { pending = e3.view.pending })
        (ap (λ (e : DriverSeen). e.view) at2 ∙ ap (λ (v : DriverView).
        record v { pending = e2.view.pending }) begun.left_is)

    table_is : e4.table ≡ e0.table
    table_is = ap (λ (e : DriverSeen). e.table) at4 ∙ ap (λ (e : DriverSeen). e.table) at3
        ∙ ap (λ (e : DriverSeen). e.table) at2 ∙ ap (λ (e : DriverSeen). e.table) at1

    pages_are : e4.pages ≡ e0.pages
    pages_are = ap (λ (e : DriverSeen). e.pages) at4 ∙ ap (λ (e : DriverSeen). e.pages) at3
        ∙ ap (λ (e : DriverSeen). e.pages) at2 ∙ ap (λ (e : DriverSeen). e.pages) at1
