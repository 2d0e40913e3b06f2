use Rattle.std.proofs.Common.{◌≡◌, ℕ, List, ◌∷◌, ◌++◌, [], ap, codes, map, ◌∙◌}
use Rattle.std.specs.Fmt.{decimal}
use Rattle.svga_cmd.specs.Lent.{entries_of}
use Rattle.svga_cmd.specs.declared.remap.EntriesRef.{EntriesRef}
use Rattle.svga_io.proofs.Chains.{GrowsByPrefix-first}
use Rattle.svga_text.proofs.PassingLaws.{at_err, fault-same, fault-then, line-append, Passes-then, Writes-end, Writes-same}
use Rattle.svga_text.specs.CommandLines.{entry_numbers}
use Rattle.svga_text.specs.Lines.{line, spaced}
use Rattle.svga_text.specs.Names.{kind_name}
use Rattle.svga_text.proofs.render.Render.remap_gmr2.Goals as goal

-- the words before the entries
abbrev head : ℕ → ℕ → ℕ → ℕ → List ℕ → List (List ℕ)
head word region offset pages kind = decimal word ∷ codes "REMAP_GMR2" ∷ decimal region ∷ decimal offset ∷ decimal pages ∷ kind ∷ []

abbrev entry_words : EntriesRef → List (List ℕ)
entry_words entries = map decimal (entry_numbers (entries_of entries))

-- what is written in parts is the line
whole : (word region offset pages : ℕ) (kind : List ℕ) (entries : EntriesRef) → kind ≡ kind_name (entries_of entries)
    → ((codes "at" ++ spaced (head word region offset pages kind)) ++ spaced (entry_words entries)) ++ 10 ∷ [] ≡ line (codes "at") (head word region offset pages (kind_name (entries_of entries)) ++ entry_words entries)
whole word region offset pages kind entries is = line-append (codes "at") (head word region offset pages kind) (entry_words entries)
    ∙ ap (λ name. line (codes "at") (head word region offset pages name ++ entry_words entries)) is

pub returns-in_err-begin : goal.returns-in_err-begin
returns-in_err-begin g c = at_err _ c.from_residual.result c.from_residual.ensures.0
    (fault-same (whole c.args.word c.args.region c.args.offset c.args.pages c.name_of_kind.result.now c.args.entries.now c.name_of_kind.ensures)
    (GrowsByPrefix-first (10 ∷ []) (GrowsByPrefix-first (spaced (entry_words c.args.entries.now)) (c.in_err-begin.ensures {u = tt}))))

pub returns-in_err-entries : goal.returns-in_err-entries
returns-in_err-entries g c = at_err _ c.from_residual-in_err-entries.result c.from_residual-in_err-entries.ensures.0
    (fault-same (whole c.args.word c.args.region c.args.offset c.args.pages c.name_of_kind.result.now c.args.entries.now c.name_of_kind.ensures)
    (GrowsByPrefix-first (10 ∷ []) (fault-then _ (c.in_ok-begin.ensures {u = tt}) (c.in_err-entries.ensures {u = tt}))))

pub returns : goal.returns
returns g c = Writes-same g.K.Sink.held g.K.Sink.faults _ _ c.end.result
    (whole c.args.word c.args.region c.args.offset c.args.pages c.name_of_kind.result.now c.args.entries.now c.name_of_kind.ensures)
    (Writes-end _ (10 ∷ []) c.end.result (Passes-then (c.in_ok-begin.ensures {u = tt}) (c.in_ok-entries.ensures {u = tt})) c.end.ensures)
