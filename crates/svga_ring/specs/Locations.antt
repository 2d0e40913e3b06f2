-- Where a page can be, and what its word, its slot and the views then say.
use Rattle.std.specs.Prelude.{ℕ, List, Bool, false, true, Option, Some, None}
use mathlib.Core.Option as maybe

-- what lies in a slot: nothing, or a page's bytes
abbrev pub Slot : Type 0
Slot = Option (List ℕ)

-- a slot that is at home, with what lies in it, or is out
abbrev pub Home : Type 0
Home = maybe.Option Slot

-- with the driver, at home, held by the device, or with its slot out with one of them
pub data Location : Type 0 where
  with_driver : Location
  at_home : Location
  held : Location
  out_with_driver : Location
  out_with_device : Location

abbrev pub location_word : Location → ℕ
location_word with_driver = 0
location_word at_home = 1
location_word held = 2
location_word out_with_driver = 3
location_word out_with_device = 4

-- its slot, where a page at home has these bytes
abbrev pub location_home : List ℕ → Location → Home
location_home bytes with_driver = maybe.some None
location_home bytes at_home = maybe.some (Some bytes)
location_home bytes held = maybe.some None
location_home bytes out_with_driver = maybe.none
location_home bytes out_with_device = maybe.none

-- what the views say of it: that it is lent, that the device holds it, that its slot is out with the driver,
-- or with the device
abbrev pub views_say : Location → Bool × Bool × Bool × Bool
views_say with_driver = (false, false, false, false)
views_say at_home = (true, false, false, false)
views_say held = (true, true, false, false)
views_say out_with_driver = (false, false, true, false)
views_say out_with_device = (true, true, false, true)
