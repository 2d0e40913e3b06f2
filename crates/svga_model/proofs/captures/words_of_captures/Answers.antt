use Rattle.std.proofs.Common.{[], ◌∷◌, ◌∙◌, None, Some}
use Rattle.std.specs.Cmp.{nat_cmp_total}
use Rattle.std.specs.FinMap as map
use Rattle.std.specs.FinMap.{nat_cmp-IsAntisymmetric}
use Rattle.svga_cmd.proofs.Maps.{get_other, get_same}
use Rattle.svga_cmd.specs.declared.page.PageKey.TheVariants.{Guest}
use Rattle.svga_model.proofs.captures.words_of_captures.Goals as goal

pub returns-clause-places : goal.returns-clause-places
returns-clause-places c = get_same nat_cmp_total nat_cmp-IsAntisymmetric (map.insert map.empty 6 (None ∷ [])) 5 (Some (Guest 0) ∷ [])

pub returns-clause-unmapped : goal.returns-clause-unmapped
returns-clause-unmapped c =
    get_other nat_cmp_total nat_cmp-IsAntisymmetric (map.insert map.empty 6 (None ∷ [])) 5 6 (Some (Guest 0) ∷ []) (λ same. cc same)
    ∙ get_same nat_cmp_total nat_cmp-IsAntisymmetric map.empty 6 (None ∷ [])
