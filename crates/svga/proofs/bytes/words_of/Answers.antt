use Rattle.std.proofs.Common.{◌≡◌, ℕ, List, ◌++◌, length, take, drop, arith, ◌∙◌}
use Rattle.std.proofs.lemmas.List.{take-append-le, take_all}
use Rattle.svga.proofs.BytesLaws.{read_words_in}
use Rattle.svga.proofs.bytes.words_of.Goals as goal

-- a vector all of whose elements were written
refilled : (words old : List ℕ) (len : ℕ) → length words ≡ len → take len (words ++ drop (length words) old) ≡ words
refilled words old len is = take-append-le len words (drop (length words) old) (omega arith) ∙ take_all len words (omega arith)

pub returns : goal.returns
returns c =
    let len = (c.in_ok-words.ensures {u = tt}).len in
    let same : length c.read_u32_into.new.dst ≡ c.in_ok-words.words.len = omega (arith, c.read_u32_into.auto.dst, c.deref_mut.ensures.len) in
    refilled c.read_u32_into.new.dst c.in_ok-words.words.items c.in_ok-words.words.len same ∙ read_words_in c.args.bytes.now c.read_u32_into.new.dst (same ∙ len) c.read_u32_into.ensures
