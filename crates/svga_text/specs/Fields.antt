-- The text of a field.
use Rattle.std.specs.Prelude.{ℕ, List}
use Rattle.std.specs.Fmt.{decimal, signed_decimal}
use Rattle.svga_text.specs.Hexadecimal.{hex_byte}
use Rattle.svga_text.specs.Keys.{key_text}
use Rattle.svga_text.specs.declared.field.Field.{Field}
use Rattle.svga_text.specs.declared.field.Field.TheVariants.{Unsigned, Signed, Name, Byte, Key}

abbrev pub field_text : Field → List ℕ
field_text (Unsigned n) = decimal n
field_text (Signed z) = signed_decimal z
field_text (Name name) = name.now
field_text (Byte byte) = hex_byte byte
field_text (Key key) = key_text key
