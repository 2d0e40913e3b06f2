-- A step of a seat that moves one page: what it has to leave of pages and of the acts in hand, so that all is
-- sound.
use Rattle.std.proofs.Common.{◌≡◌, ℕ, slice_set, true, Option, sym, ap, subst, arith}
use Rattle.std.specs.FinSet as set
use Rattle.std.specs.FinSet.{FinSet}
use Rattle.svga_cmd.specs.Pages.{IsKey, key_cmp}
use Rattle.svga_cmd.specs.declared.limits.Limits.{Limits}
use Rattle.svga_cmd.specs.declared.page.PageKey.{PageKey}
use Rattle.svga_cmd.specs.declared.session.Session.{Session}
use Rattle.svga_model.specs.Memories.{page_bytes}
use Rattle.svga_model.specs.Runs.{run}
use Rattle.svga_model.specs.States.{State, opening_state}
use Rattle.svga_ring.proofs.Steps.Apart.{sound_apart}
use Rattle.svga_ring.proofs.Steps.Beside.{requests_beside, stops_beside, words_beside}
use Rattle.svga_ring.proofs.Acts.InHand.{opening_of, settled_of}
use Rattle.svga_ring.specs.Core.{Core, with_page_word}
use Rattle.svga_ring.specs.Noting.{NotedPages}
use Rattle.svga_ring.specs.Locations.{Home}
use Rattle.svga_ring.specs.SharedTable.{page_word, slot_number}
use Rattle.svga_ring.specs.Sound.{IsSound}
use Rattle.svga_ring.specs.SoundPages.{AreLocated, AreClear, IsRunSoFar}
use Rattle.svga_ring.specs.TableSteps.{page_left}
use Rattle.svga_ring.specs.Views.{Apart, Terms}

-- both ends' limits are the session's, and so a page by them
pub limits_of : {k : Session} {c : Core} → IsSound k c → c.driver.terms.limits ≡ k.limits
limits_of o = ap (λ (t : Terms). t.limits) o.of_words.session.of_driver

pub device_limits_of : {k : Session} {c : Core} → IsSound k c → c.device.terms.limits ≡ k.limits
device_limits_of o = ap (λ (t : Terms). t.limits) o.of_words.session.of_device

-- the page that running all acts leaves, as the driver knows it
pub left_is : (k : Session) (c : Core) (key : PageKey) → IsSound k c
    → page_left c.driver key ≡ page_bytes (run (opening_of k) c.driver.acts).memory key
left_is k c key o =
    ap (λ (t : Terms). page_bytes (run (opening_state t.limits t.first) c.driver.acts).memory key)
    o.of_words.session.of_driver

pub key_of : {k : Session} {c : Core} (key : PageKey) → IsSound k c → IsKey c.driver.terms.limits key
    → IsKey k.limits key
key_of key o is = subst (λ (l : Limits). IsKey l key) (limits_of o) is

-- all pages are at places once a page's word and slot are stored, by these limits
abbrev pub AreMoved : Session → Core → PageKey → ℕ → Home → State → FinSet key_cmp → FinSet key_cmp
    → NotedPages
    → Option PageKey → Limits → Type 0
AreMoved k c key value home s lent driver_out noted device_out l =
    AreLocated k.limits (slice_set c.words (page_word l key) value)
    (slice_set c.homes (slot_number l key) home) s lent
    driver_out noted device_out

pub moved : (k : Session) (c : Core) {s : State} {lent driver_out : FinSet key_cmp} {noted : NotedPages}
    {device_out : Option PageKey} (l : Limits) (key : PageKey) (value : ℕ) (home : Home) → l ≡ k.limits
    → AreMoved k c key value home s lent driver_out noted device_out k.limits
    → AreMoved k c key value home s lent driver_out noted device_out l
moved k c {s} {lent} {driver_out} {noted} {device_out} l key value home same at =
    subst (AreMoved k c key value home s lent driver_out noted device_out) (sym same) at

pub page_step : {k : Session} {c : Core} {lent driver_out : FinSet key_cmp} {noted : NotedPages}
    {device_out : Option PageKey} (l : Limits) (key : PageKey) (value : ℕ) (home : Home) → l ≡ k.limits
    → IsSound k c → c.seats ≡ Apart
    → AreMoved k c key value home (settled_of k c) lent driver_out noted device_out k.limits
    → AreClear (opening_of k) c.driver.acts c.device.done c.driver.passed c.driver.seen lent c.driver.request
    c.device.answered
    → IsRunSoFar (opening_of k) c.driver.acts c.device.done c.device.read c.device.kept noted c.driver.request
    c.device.wanted c.device.answered
    → ((a b : PageKey) → set.contains driver_out a ≡ true → set.contains driver_out b ≡ true → a ≡ b)
    → IsSound k (record (with_page_word l c key value home) {
      driver = record c.driver { lent = lent; out = driver_out };
      device = record c.device { noted = noted; out = device_out };
    })
page_step {k} {c} l key value home same o apart pages clear runs one_slot =
    let i : ℕ = page_word l key in sound_apart apart (words_beside i value (omega arith) o.of_words)
    (moved k c l key value home same pages) clear runs
    (requests_beside i value (omega arith) (omega arith) (omega arith) o.requests)
    (stops_beside i value (omega arith) o.stops) o.reserving one_slot
