-- While there are two seats, a step leaves all sound that leaves each part so.
use Rattle.std.proofs.Common.{◌≡◌, true}
use Rattle.std.specs.FinSet as set
use Rattle.svga_cmd.specs.declared.page.PageKey.{PageKey}
use Rattle.svga_cmd.specs.declared.session.Session.{Session}
use Rattle.svga_ring.proofs.Acts.InHand.{opening_of, settled_of}
use Rattle.svga_ring.specs.Committed.{commands}
use Rattle.svga_ring.specs.Core.{Core}
use Rattle.svga_ring.specs.Sound.{IsSound, IsSoundOfWords}
use Rattle.svga_ring.specs.SoundPages.{AreLocated, AreClear, IsRunSoFar}
use Rattle.svga_ring.specs.SoundRequests.{AreRequests, IsReserving}
use Rattle.svga_ring.specs.SoundStops.{IsStopping}
use Rattle.svga_ring.specs.Views.{Apart}

pub sound_apart : {k : Session} {c : Core} → c.seats ≡ Apart → IsSoundOfWords k c
    → AreLocated k.limits c.words c.homes (settled_of k c) c.driver.lent c.driver.out c.device.noted
    c.device.out
    → AreClear (opening_of k) c.driver.acts c.device.done c.driver.passed c.driver.seen c.driver.lent
    c.driver.request
    c.device.answered
    → IsRunSoFar (opening_of k) c.driver.acts c.device.done c.device.read c.device.kept c.device.noted
    c.driver.request
    c.device.wanted c.device.answered
    → AreRequests c.words c.driver.acts c.driver.request c.device.wanted c.device.answered
    c.driver.reply_loads.last
    c.driver.reserved
    → IsStopping c.words (commands c.driver.acts) c.driver.sent c.driver.pending c.driver.stopped
    c.device.saw_stopped c.device.drained c.device.next c.driver.request.number c.driver.reply_loads.last
    → IsReserving c.driver.terms.way (commands c.driver.acts) c.driver.sent c.driver.pending c.driver.reserved
    c.driver.next_stores
    → ((a b : PageKey) → set.contains c.driver.out a ≡ true → set.contains c.driver.out b ≡ true → a ≡ b)
    → IsSound k c
sound_apart apart words pages clear runs requests stops reserving one_slot = record {
  of_words = words;
  pages = pages;
  clear = clear;
  runs = runs;
  requests = requests;
  stops = stops;
  reserving = reserving;
  opening = λ q. absurd (cc (apart, q));
  one_slot = λ q. one_slot;
  joined = λ q. absurd (cc (apart, q));
}

-- the one slot that is out
pub one_out : {k : Session} {c : Core} → IsSound k c → c.seats ≡ Apart
    → (a b : PageKey) → set.contains c.driver.out a ≡ true → set.contains c.driver.out b ≡ true → a ≡ b
one_out o apart = o.one_slot (λ q. cc (apart, q))
