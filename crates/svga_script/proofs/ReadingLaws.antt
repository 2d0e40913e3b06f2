-- A line more.
use Rattle.std.proofs.Common.{◌≡◌, ℕ, zero, suc, ◌+◌, ◌<◌, List, [], ◌∷◌, length, get_or, map as map_list, Bool, true, false, ◌&&◌, refl, IsSome, Option, Some, None, option_map, Result, Ok, Err, sym, ap, subst, ◌∙◌, arith}
use Rattle.std.specs.List.{list_all}
use Rattle.std.specs.Option.{option_or}
use Rattle.svga_cmd.specs.declared.session.Session.{Session}
use Rattle.svga_model.proofs.ScriptBoundLaws.{script_bounded}
use Rattle.svga_model.specs.Meanings as model
use Rattle.svga_model.specs.ScriptBounds.{AreBounded, is_bounded}
use Rattle.svga_model.specs.ScriptLines.{LineFlaw, first_empty, first_strange, line_flaw, words_flaw, words_of}
use Rattle.svga_model.specs.Scripts.{Read, script_of, script_read, with_words}
use Rattle.svga_script.specs.Acts.{act_of}
use Rattle.svga_script.specs.Asked.{numbers_of}
use Rattle.svga_script.specs.Readings.{IsAdded, IsReadingOf, line_act}
use Rattle.svga_script.specs.declared.fault.LineFault.{LineFault}
use Rattle.svga_script.specs.declared.reading.LineAct.{LineAct}
use Rattle.svga_script.specs.declared.reading.Reading.{Reading}

-- nothing is wrong with its characters and its spaces
only_words : (has : Bool) (line : List ℕ) → first_strange 1 line ≡ None → first_empty (words_of line) ≡ None
    → line_flaw has line ≡ words_flaw has (length line + 1) (words_of line)
only_words has line characters spaces =
    let next : suc (length line) ≡ length line + 1 = omega arith in
    ap (λ o. option_or o (option_or (first_empty (words_of line)) (words_flaw has (suc (length line)) (words_of line)))) characters
    ∙ ap (λ o. option_or o (words_flaw has (suc (length line)) (words_of line))) spaces
    ∙ ap (λ n. words_flaw has n (words_of line)) next

pub judged : {X : Type 0} (has known : Bool) (line : List ℕ) (more : Read → Read) (old new : Reading) (r : Result X LineFault)
    → first_strange 1 line ≡ None → first_empty (words_of line) ≡ None → has ≡ known
    → IsAdded (words_flaw known (length line + 1) (words_of line)) more old new r → IsAdded (line_flaw has line) more old new r
judged has known line more old new r characters spaces same o =
    subst (λ flaw. IsAdded flaw more old new r) (sym (only_words has line characters spaces ∙ ap (λ b. words_flaw b (length line + 1) (words_of line)) same)) o

-- the session's line
pub as_first : {X : Type 0} (flaw : Option LineFlaw) (line : List ℕ) (old new : Reading) (r : Result X LineFault) → old.session ≡ None
    → IsAdded flaw (λ x. with_words None x line) old new r → IsAdded flaw (λ x. with_words x.session x line) old new r
as_first flaw line old new (Err f) none o = o
as_first flaw line old new (Ok x) none o =
    (o.0, λ r held. subst (λ s. IsReadingOf (with_words s r line) new) (sym (ap (option_map numbers_of) none) ∙ held.session) (o.1 r held))

both : (a b : Bool) → (a && b) ≡ true → (a ≡ true) × (b ≡ true)
both true b e = (refl, e)
both false b e = absurd (cc e)

-- the script that all lines are is within its bounds
pub end_bounded : (bytes : List ℕ) (r : Read) (held : Reading) → IsReadingOf r held → script_of bytes ≡ script_read r.session r → IsSome held.session → held.short ≡ false
    → AreBounded (map_list line_act held.acts.items)
end_bounded bytes r held o is some ok = go held.session refl some where
  go : (session : Option Session) → held.session ≡ session → IsSome session → AreBounded (map_list line_act held.acts.items)
  go None none there = absurd (let f = there in cc f)
  go (Some s) there _ =
      let opened : r.session ≡ Some (numbers_of s) = sym o.session ∙ ap (option_map numbers_of) there in
      subst AreBounded (sym (o.acts ok)) (script_bounded bytes (record { session = numbers_of s; acts = r.acts }) (is ∙ ap (λ x. script_read x r) opened))

-- an act of those that are
pub bounded_at : (acts : List LineAct) (i : ℕ) (a : LineAct) → i < length acts → list_all (λ (x : model.LineAct). is_bounded x.act) (map_list line_act acts) ≡ true
    → is_bounded (act_of (get_or acts i a).act) ≡ true
bounded_at [] i a low each = absurd (omega (arith, low))
bounded_at (x ∷ acts) zero a low each = (both (is_bounded (act_of x.act)) (list_all (λ (y : model.LineAct). is_bounded y.act) (map_list line_act acts)) each).0
bounded_at (x ∷ acts) (suc i) a low each = bounded_at acts i a (omega (arith, low)) (both (is_bounded (act_of x.act)) (list_all (λ (y : model.LineAct). is_bounded y.act) (map_list line_act acts)) each).1
