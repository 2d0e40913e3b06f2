use Rattle.std.proofs.Common.{◌≡◌, ◌∷◌, ◌++◌, ◌+◌, ◌*◌, ◌-◌, [], length, drop, ap, sym, ◌∙◌, arith, append_assoc, length-drop}
use Rattle.svga_model.specs.ScriptWords.{hex_in}
use Rattle.svga_script.proofs.HexLaws.{bytes_done, bytes_more, digit_at}
use Rattle.svga_script.proofs.hexadecimal.bytes.Goals as goal

pub byte-requires-clause-high : goal.byte-requires-clause-high
byte-requires-clause-high c = digit_at c.args.letters.now (2 * c.loop-i.i) c.requires (omega arith)

pub byte-requires-clause-low : goal.byte-requires-clause-low
byte-requires-clause-low c = digit_at c.args.letters.now (2 * c.loop-i.i + 1) c.requires (omega arith)

pub loop-i-preserved : goal.loop-i-preserved
loop-i-preserved c =
    let more = bytes_more c.args.letters.now c.loop-i.i (omega arith) in
    let byte = c.byte.ensures in
    let items = c.in_ok-push.ensures.items in
    ap (λ l. l ++ hex_in (drop (2 * (c.loop-i.i + 1)) c.args.letters.now)) items
    ∙ append_assoc c.loop-i.bytes.items (c.byte.result ∷ []) (hex_in (drop (2 * (c.loop-i.i + 1)) c.args.letters.now))
    ∙ ap (λ b. c.loop-i.bytes.items ++ (b ∷ hex_in (drop (2 * (c.loop-i.i + 1)) c.args.letters.now))) byte
    ∙ sym (ap (λ l. c.loop-i.bytes.items ++ l) more)
    ∙ c.loop-i.invariant

pub returns : goal.returns
returns c =
    let rest : length (drop (2 * c.loop-i.i) c.args.letters.now) ≡ length c.args.letters.now - 2 * c.loop-i.i = length-drop (2 * c.loop-i.i) c.args.letters.now in
    sym (bytes_done c.loop-i.bytes.items (drop (2 * c.loop-i.i) c.args.letters.now) (omega (arith, rest))) ∙ c.loop-i.invariant
