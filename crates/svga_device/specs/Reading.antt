-- What a device has read of a command.
use Rattle.std.specs.Prelude.{◌≡◌, ℕ, List}
use Rattle.svga_decode.specs.DecoderStates.{DecoderState, begun_words, IsLive}
use Rattle.svga_decode.specs.declared.answer.Fed.TheVariants.{Whole}
use Rattle.svga_link.specs.Ends.{DeviceSeen}
use Rattle.svga_model.specs.Sentences.{IsCommandBegun, SpellsSome}
use Rattle.svga_ring.specs.Views.{DeviceView}

-- the words that were read since STOP are those that the decoder has, and more words follow in their command
pub record IsReading (e : DeviceView) (d : DecoderState) : Type 0 where
  pub live : IsLive d.last
  pub words : begun_words d ≡ e.read
  pub begun : IsCommandBegun e.read

-- they are a whole command
pub record IsWhole (e : DeviceView) (d : DecoderState) : Type 0 where
  pub last : d.last ≡ Whole
  pub words : d.words ≡ e.read
  pub spells : SpellsSome e.read

-- the end with these words read since STOP
abbrev pub with_words : DeviceSeen → List ℕ → DeviceSeen
with_words d words = record d { view = record d.view { read = words } }
