-- The order of page keys tells all keys apart.
use Rattle.std.proofs.Common.{ap}
use Rattle.std.proofs.lemmas.Cmp.{on_total, then_total}
use Rattle.std.proofs.lemmas.Map.Lookups.{exact_unsigned}
use Rattle.std.specs.Cmp.{IsTotalOrder, nat_cmp_total}
use Rattle.std.specs.FinMap.{IsAntisymmetric}
use Rattle.svga_cmd.specs.declared.page.PageKey.TheVariants.{Guest, Frame}
use Rattle.svga_cmd.specs.Pages.{key_cmp, kind_of, number_in_kind}

-- the order is total
pub keys_total : IsTotalOrder key_cmp
unfolding key_cmp
keys_total = then_total (on_total kind_of nat_cmp_total) (on_total number_in_kind nat_cmp_total)

-- keys that it does not tell apart are one
pub keys_exact : IsAntisymmetric key_cmp
unfolding key_cmp
keys_exact (Guest p) (Guest q) e = ap Guest (exact_unsigned p q e)
keys_exact (Guest p) (Frame q) e = cc
keys_exact (Frame p) (Guest q) e = cc
keys_exact (Frame p) (Frame q) e = ap Frame (exact_unsigned p q e)
