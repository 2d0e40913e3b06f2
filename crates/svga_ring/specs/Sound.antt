-- Sound: what holds of a session at every moment.
use Rattle.std.specs.FinSet as set
use Rattle.std.specs.Prelude.{◌≡◌, ◌≢◌, [], length, slice_index, false, true}
use Rattle.svga_cmd.specs.Pages.{IsKey}
use Rattle.svga_cmd.specs.declared.page.PageKey.{PageKey}
use Rattle.svga_cmd.specs.declared.session.Session.{Session}
use Rattle.svga_model.specs.States.{opening_state}
use Rattle.svga_model.specs.Touches.{is_page}
use Rattle.svga_ring.specs.Committed.{commands}
use Rattle.svga_ring.specs.Core.{Core, opening_core}
use Rattle.svga_ring.specs.Layouts.{IsLayout, Layout}
use Rattle.svga_ring.specs.Noting.{holds}
use Rattle.svga_ring.specs.SharedTable.{fence_word}
use Rattle.svga_ring.specs.SoundActs.{AreAdmissible}
use Rattle.svga_ring.specs.SoundFences.{AreFencesInOrder}
use Rattle.svga_ring.specs.SoundPages.{AreLocated, AreClear, IsRunSoFar, reached}
use Rattle.svga_ring.specs.Requests.{is_chain_out}
use Rattle.svga_ring.specs.SoundRequests.{AreRequests, IsReserving}
use Rattle.svga_ring.specs.SoundStops.{IsStopping}
use Rattle.svga_ring.specs.SoundWords.{AreFixed, AreInOrder, AreInRing, AreLastLoaded, IsKnownWhole}
use Rattle.svga_ring.specs.Views.{DeviceView, DriverView, Joined, Opening, Terms, opening_layout, terms_of}

-- both ends have the session's numbers, and one layout of the ring
pub record AreOfSession (k : Session) (driver_terms device_terms : Terms) (driver device : Layout) : Type 0
  where
    pub of_driver : driver_terms ≡ terms_of k
    pub of_device : device_terms ≡ terms_of k
    pub layout : IsLayout device
    pub one_layout : driver ≡ device
    -- until a ring grows: a sentence by itself, which no other rests on
    pub first_layout : device ≡ opening_layout k

-- what is sound of words, cells, acts and fences
pub record IsSoundOfWords (k : Session) (c : Core) : Type 0 where
  pub session : AreOfSession k c.driver.terms c.device.terms c.driver.layout c.device.layout
  pub order : AreInOrder c.driver.terms.way (commands c.driver.acts) c.driver.sent c.device.taken
      c.device.read c.device.done c.device.next
  pub ring : AreInRing c.device.layout c.words c.driver.sent c.driver.pending c.device.taken c.driver.stop
  pub fixed : AreFixed k.limits k.way c.device.layout c.words
  pub known : IsKnownWhole (commands c.driver.acts) c.device.done c.driver.stop c.driver.passed
  pub loads : AreLastLoaded c.seats c.driver.layout c.device.layout c.driver.stop c.device.next
      c.driver.stop_loads.last c.device.next_loads.last
  pub fences : AreFencesInOrder k.first (commands c.driver.acts) c.device.done c.device.read c.device.stored
      (slice_index c.words fence_word) c.driver.seen c.driver.fence_loads.last
  pub acts : AreAdmissible k.limits k.first c.driver.acts

-- once the seats are joined, all is taken and known to be
pub record IsJoined (d : DriverView) (e : DeviceView) : Type 0 where
  pub all_taken : d.sent ≡ e.taken
  pub stop_is : d.stop ≡ length e.taken
  pub passed_is : d.passed ≡ e.done
  pub none_read : e.read ≡ []
  pub none_pending : d.pending ≡ []
  pub stopped : d.stopped ≡ true
  pub none_held : (key : PageKey) → holds e.noted key ≡ false
  pub none_out : (key : PageKey) → IsKey d.terms.limits key → is_page key e.out ≡ false

-- all of it: beside words the pages, requests and stopping
pub record IsSound (k : Session) (c : Core) : Type 0 where
  pub of_words : IsSoundOfWords k c
  pub pages : AreLocated k.limits c.words c.homes
      (reached (opening_state k.limits k.first) c.device.done
      (is_chain_out c.driver.request c.device.answered) c.driver.acts)
      c.driver.lent c.driver.out c.device.noted c.device.out
  pub clear : AreClear (opening_state k.limits k.first) c.driver.acts c.device.done c.driver.passed
      c.driver.seen c.driver.lent c.driver.request c.device.answered
  pub runs : IsRunSoFar (opening_state k.limits k.first) c.driver.acts c.device.done c.device.read
      c.device.kept c.device.noted c.driver.request c.device.wanted c.device.answered
  pub requests : AreRequests c.words c.driver.acts c.driver.request c.device.wanted c.device.answered
      c.driver.reply_loads.last c.driver.reserved
  pub stops : IsStopping c.words (commands c.driver.acts) c.driver.sent c.driver.pending c.driver.stopped
      c.device.saw_stopped c.device.drained c.device.next c.driver.request.number c.driver.reply_loads.last
  pub reserving : IsReserving c.driver.terms.way (commands c.driver.acts) c.driver.sent c.driver.pending
      c.driver.reserved c.driver.next_stores
  pub opening : c.seats ≡ Opening → c ≡ opening_core k
  -- a seat has at most one slot out until the seats are joined
  pub one_slot : c.seats ≢ Joined → (a b : PageKey) → set.contains c.driver.out a ≡ true
      → set.contains c.driver.out b ≡ true → a ≡ b
  pub joined : c.seats ≡ Joined → IsJoined c.driver c.device
