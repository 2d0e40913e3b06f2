-- What contracts see of a driver, the client that it stands for, and what it keeps between calls.
use Rattle.std.specs.Prelude.{◌≡◌, ℕ, ◌+◌, ◌*◌, ◌<◌, ◌≤◌, ◌^◌, [], length, take, ◌==◌, false, if◌then◌else◌, Option, Some, None}
use Rattle.std.specs.FinMap as map
use Rattle.std.specs.FinMap.{FinMap}
use Rattle.atomic_table.specs.Seated.{TableId}
use Rattle.svga_client.specs.Following.{IsFollowed, Known, client_of}
use Rattle.svga_client.specs.Marks.{fence_behind}
use Rattle.svga_cmd.specs.Pages.{Memory, key_cmp}
use Rattle.svga_cmd.specs.declared.constants.TheConstants.{FENCE_WINDOW}
use Rattle.svga_cmd.specs.declared.page.PageKey.{PageKey}
use Rattle.svga_driver.specs.LendingSet.{AreLent, LendingSet}
use Rattle.svga_driver.specs.declared.lending.Lending.TheVariants.{Touched}
use Rattle.svga_link.specs.Ends.{DriverSeen}
use Rattle.svga_link.specs.Lending.{with_reply}
use Rattle.svga_link.specs.ReserveAnswers.{ring_bytes}
use Rattle.svga_model.specs.Clients.{Client}
use Rattle.svga_model.specs.Fences.{fences}
use Rattle.svga_model.specs.Runs.{run}
use Rattle.svga_model.specs.Sentences.{spelling_all}
use Rattle.svga_model.specs.States.{shape_of}
use Rattle.svga_ring.specs.Committed.{commands}
use Rattle.svga_ring.specs.Conditions.{first_state}
use Rattle.svga_ring.specs.Layouts.{Layout}
use Rattle.svga_ring.specs.RingPieces.{geometry_of}
use Rattle.svga_ring.specs.Rings.{IsOffset, IsRing, address_in}
use Rattle.svga_ring.specs.Views.{DriverView}
use Rattle.svga_ring.specs.declared.plans.Geometry.{Geometry}
use Rattle.svga_shape.specs.ShapeSet.{ShapeSet, shape_in}

-- its table and view, the pages that are with it, and for each lent page the number of the last command of
-- this lending that touches it
pub record DriverHas : Type 0 where
  pub table : TableId
  pub view : DriverView
  pub own : Memory
  pub touched : FinMap key_cmp ℕ

-- what it knows by itself
abbrev pub known_by : DriverView → Memory → Known
known_by d own =
    record { acts = d.acts; passed = d.passed; seen = d.seen; lent = d.lent; own = own }

abbrev pub client_by : DriverView → Memory → FinMap key_cmp ℕ → Client
client_by d own touched = client_of d.terms.limits d.terms.first touched (known_by d own)

-- the client that it stands for
abbrev pub client_in : DriverHas → Client
client_in d = client_by d.view d.own d.touched

-- the number of the request that is open to it
abbrev pub open_request : DriverView → Option ℕ
open_request d = if d.request.number == d.reply_loads.last then None else Some d.request.number

-- The view once no request is open: as it is where none was, else with the reply loaded, which is the
-- request's number.
abbrev pub settled : DriverView → DriverView
settled d =
    if d.request.number == d.reply_loads.last then d else with_reply d d.request.number

-- the same driver with another view
abbrev pub with_view : DriverHas → DriverView → DriverHas
with_view d view = record d { view = view }

-- the words of the longest command that a driver sends: a remap of 2,048 pages
abbrev pub MAX_SENT_WORDS : ℕ
MAX_SENT_WORDS = 2053

-- there is room in the counts for a command more
abbrev pub IsShort : DriverView → Type 0
IsShort d = length d.sent + MAX_SENT_WORDS < 2 ^ 62

-- the ring of this layout, and the offset of NEXT_CMD behind so many words
pub record IsAtNext (ring : Geometry) (next : ℕ) (layout : Layout) (sent : ℕ) : Type 0 where
  pub ring_is : ring ≡ geometry_of layout
  pub ring_good : IsRing ring
  pub none_before : layout.base ≡ 0
  pub offset : IsOffset ring next
  pub next_is : next ≡ address_in ring sent

-- What a driver keeps: the ring and NEXT_CMD, an end, a shape, what happened to the lent pages, the number of
-- the first fence, how many fences and commands were committed and how many fences were seen, and the open
-- request.
pub record IsDriver (ring : Geometry) (next : ℕ) (e : DriverSeen) (s : ShapeSet) (n : LendingSet)
    (first emitted committed seen : ℕ) (asked : Option ℕ) : Type 0 where
  pub followed : IsFollowed e.view.terms.limits (client_by e.view e.pages n.touched) (known_by e.view e.pages)
  -- nothing is reserved, the end runs, and its ring is larger than each command
  pub none_reserved : e.reserved ≡ 0
  pub none_put : e.words ≡ []
  pub runs : e.view.stopped ≡ false
  pub large : 4 * MAX_SENT_WORDS < ring_bytes e
  -- the shape is that of all acts
  pub shape_is : shape_of (run (first_state e.view) e.view.acts).kept ≡ shape_in s
  -- the lent pages, and what is noted of them
  pub limits_are : n.limits ≡ e.view.terms.limits
  pub lent_are : AreLent e.view.lent n
  pub marks : (key : PageKey) (command fences : ℕ) → map.get n.lent key ≡ Some (Touched command fences)
      → (fences ≡ fence_behind (commands e.view.acts) command) × (command < length (commands e.view.acts))
  -- the counts
  pub first_is : first ≡ e.view.terms.first
  pub some_first : 1 ≤ first
  pub emitted_are : emitted ≡ length (fences (commands e.view.acts))
  pub committed_are : committed ≡ length (commands e.view.acts)
  pub fenced : emitted ≤ committed
  pub counted : committed ≤ length e.view.sent
  pub seen_are : seen ≡ e.view.seen
  pub window : emitted ≤ seen + FENCE_WINDOW
  pub passed : e.view.stop ≡ length (spelling_all (take e.view.passed (commands e.view.acts)))
  pub some_passed : e.view.passed ≤ length (commands e.view.acts)
  pub asked_is : asked ≡ open_request e.view
  pub at_next : IsAtNext ring next e.view.layout (length e.view.sent)
