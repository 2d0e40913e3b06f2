-- What each step tells its seat: that it was this event, made of some sound core of a session that has the
-- seat's view.
use Rattle.std.specs.Prelude.{ℕ, List}
use Rattle.atomic_table.specs.Table.{Me, Step}
use Rattle.svga_cmd.specs.Spelling.{Spells}
use Rattle.svga_cmd.specs.declared.command.Command.{Command}
use Rattle.svga_cmd.specs.declared.session.Session.{Session}
use Rattle.svga_ring.specs.Core.{Commit, Event, LoadCell, LoadNext, LoadStop, SendMore, StoreCell, StoreReserved, StoreStop}
use Rattle.svga_ring.specs.Locations.{Slot}
use Rattle.svga_ring.specs.TableRule.{View}
use Rattle.svga_ring.specs.TableSteps.{DeviceLearns, DriverLearns}

abbrev pub Told : Type 1
Told = Step Slot → Me Slot View → ℕ → Me Slot View → Type 0

-- a load tells the word that it found
abbrev pub DriverLoads : Event → Me Slot View → ℕ → Me Slot View → Type 0
DriverLoads event me found left = (k : Session) × DriverLearns k me event found left

abbrev pub DeviceLoads : Event → Me Slot View → ℕ → Me Slot View → Type 0
DeviceLoads event me found left = (k : Session) × DeviceLearns k me event found left

-- a store doesn't tell the word that it found
abbrev pub DriverStores : Event → Me Slot View → Me Slot View → Type 0
DriverStores event me left = (k : Session) × (found : ℕ) × DriverLearns k me event found left

abbrev pub DeviceStores : Event → Me Slot View → Me Slot View → Type 0
DeviceStores event me left = (k : Session) × (found : ℕ) × DeviceLearns k me event found left

-- STOP is loaded
abbrev pub loaded_stop : Told
loaded_stop step = DriverLoads LoadStop

-- a cell is stored, RESERVED is
abbrev pub stored_cell : Told
stored_cell step me word left = DriverStores (StoreCell word) me left

abbrev pub stored_reserved : Told
stored_reserved step me bytes left = DriverStores (StoreReserved bytes) me left

-- NEXT_CMD is stored behind all words of the command that the pending ones spell,
abbrev pub sent_whole : Told
sent_whole step me next left =
    (command : Command) × Spells command me.0.of_driver.pending × DriverStores (Commit command) me left

-- behind the first word of the one that these spell,
abbrev pub sent_first : List ℕ → Told
sent_first words step me next left =
    (command : Command) × Spells command words × DriverStores (Commit command) me left

-- and behind one of its other words
abbrev pub sent_more : Told
sent_more step me next left = DriverStores SendMore me left

-- NEXT_CMD is loaded, and a cell is
abbrev pub loaded_next : Told
loaded_next step = DeviceLoads LoadNext

abbrev pub loaded_cell : Told
loaded_cell step = DeviceLoads LoadCell

-- STOP is stored behind the command that was read
abbrev pub stored_stop : Told
stored_stop step me stop left =
    (command : Command) × Spells command me.0.of_device.read × DeviceStores (StoreStop command) me left
