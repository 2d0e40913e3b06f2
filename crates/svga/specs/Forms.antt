-- What the program is asked to do, by the words after its name.
use Rattle.std.specs.Prelude.{◌≡◌, ℕ, List, [], ◌∷◌, codes, map, String, string_bytes, Bool, true, false}
use Rattle.std.specs.declared.alloc.Global.{Global}
use Rattle.svga.specs.declared.form.Form.{Form}
use Rattle.svga.specs.declared.form.Form.TheVariants.{Words, Replay, Race}

abbrev pub form_word : Form → List ℕ
form_word Words = codes "words"
form_word Replay = codes "replay"
form_word Race = codes "race"

-- all forms, and those that wait for nobody
abbrev pub every_form : Form → Bool
every_form form = true

abbrev pub plain_form : Form → Bool
plain_form Words = true
plain_form Replay = true
plain_form Race = false

-- the words are the one word of this form, which is among those that are done
abbrev pub AsksFor : (Form → Bool) → Form → List (String Global) → Type 0
AsksFor does form words = (does form ≡ true) × (map string_bytes words ≡ form_word form ∷ [])

-- they are those of some form that is done
abbrev pub IsAsked : (Form → Bool) → List (String Global) → Type 0
IsAsked does words = (form : Form) × AsksFor does form words
