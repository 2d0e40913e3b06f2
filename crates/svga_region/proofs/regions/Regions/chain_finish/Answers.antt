use Rattle.std.proofs.Common.{◌≡◌, ◌∙◌, sym, ap, None, [], length, arith, take, true, slice_set, slice_index_or, replicate}
use Rattle.std.specs.Prelude.{option_map}
use Rattle.svga_model.specs.Regions.{guest_places, remapped}
use Rattle.svga_model.specs.Standing.{first_standing}
use Rattle.svga_model.specs.Walks.{list_tests, with_pages}
use Rattle.svga_region.specs.Kept.{chain_of, kept_pages, regions_of}
use Rattle.svga_region.proofs.ChainLaws.{known, list_over, list_within}
use Rattle.svga_region.proofs.DefineLaws.{place_count-slots, length_in-slot, regions_of-insert}
use Rattle.svga_region.proofs.ListLaws.{put_whole}
use Rattle.svga_region.proofs.PutLaws.{length-guest_places}
use Rattle.svga_region.proofs.regions.Regions.chain_finish.Goals as goal

pub returns-then-rest-pages : goal.returns-then-rest-pages
returns-then-rest-pages c = record {
  fault = λ chain begun.
      let old = c.self.inside.runs.items in
      let reading = c.unwrap-reading.result in
      let small = known c.self.inside.chain reading c.unwrap-reading.ensures c.self.invariant.4.chain in
      let was = ap (option_map (chain_of old)) (sym c.unwrap-reading.ensures) ∙ ap (λ r. r.chain) c.self.view_is ∙ begun in
      let is : chain_of old reading ≡ chain = cc was in
      let regions = regions_of c.self.inside.defined.items c.self.inside.lists.lists in
      let pages = kept_pages (take reading.count old) in
      let listed = c.listed_count-pages.ensures.count ∙ ap (λ runs. length (kept_pages (take reading.count runs))) c.deref.ensures.value in
      let count = place_count-slots c.self.inside.defined.items c.self.inside.lists.lists c.self.invariant.2.lists_count c.self.invariant.2.empty in
      let len = length_in-slot c.self.inside.defined.items c.self.inside.lists.lists reading.id (omega (arith, small.id)) c.self.invariant.2.empty in
      sym (list_over regions reading.id (length pages) (omega (arith, count, len, c.total.ensures.total, ap length c.list.ensures, listed)))
      ∙ (λ i. first_standing (list_tests (ap (λ r. r.regions) c.self.view_is i) (ap (λ ch. ch.id) is i) (length (ap (λ ch. ch.pages) is i))));
  ok = tt;
  err = ap (λ r. record { guest = r.guest; frame = r.frame; regions = r.regions; chain = None }) c.self.view_is;
}

pub returns : goal.returns
returns c = record {
  fault = λ chain begun.
      let old = c.self.inside.runs.items in
      let reading = c.unwrap-reading.result in
      let small = known c.self.inside.chain reading c.unwrap-reading.ensures c.self.invariant.4.chain in
      let was = ap (option_map (chain_of old)) (sym c.unwrap-reading.ensures) ∙ ap (λ r. r.chain) c.self.view_is ∙ begun in
      let is : chain_of old reading ≡ chain = cc was in
      let regions = regions_of c.self.inside.defined.items c.self.inside.lists.lists in
      let pages = kept_pages (take reading.count old) in
      let listed = c.listed_count-pages.ensures.count ∙ ap (λ runs. length (kept_pages (take reading.count runs))) c.deref.ensures.value in
      let count = place_count-slots c.self.inside.defined.items c.self.inside.lists.lists c.self.invariant.2.lists_count c.self.invariant.2.empty in
      let len = length_in-slot c.self.inside.defined.items c.self.inside.lists.lists reading.id (omega (arith, small.id)) c.self.invariant.2.empty in
      sym (list_within regions reading.id (length pages) (omega (arith, count, len, c.total.ensures.total, ap length c.list.ensures, listed)))
      ∙ (λ i. first_standing (list_tests (ap (λ r. r.regions) c.self.view_is i) (ap (λ ch. ch.id) is i) (length (ap (λ ch. ch.pages) is i))));
  ok = λ chain begun.
      let old = c.self.inside.runs.items in
      let reading = c.unwrap-reading.result in
      let small = known c.self.inside.chain reading c.unwrap-reading.ensures c.self.invariant.4.chain in
      let was = ap (option_map (chain_of old)) (sym c.unwrap-reading.ensures) ∙ ap (λ r. r.chain) c.self.view_is ∙ begun in
      let is : chain_of old reading ≡ chain = cc was in
      let lists = c.self.inside.lists.lists in
      let defined = c.self.inside.defined.items in
      let pages = kept_pages (take reading.count old) in
      let listed = c.listed_count-pages.ensures.count ∙ ap (λ runs. length (kept_pages (take reading.count runs))) c.deref.ensures.value in
      let filled = c.put_runs.ensures.lists
      ∙ ap (λ ls. slice_set ls reading.id (remapped (slice_index_or ls reading.id []) 0 (guest_places (kept_pages (take reading.count c.deref.result.now))))) c.replace.ensures.lists
      ∙ ap (λ runs. slice_set (slice_set lists reading.id (replicate c.listed_count-pages.result None)) reading.id (remapped (slice_index_or (slice_set lists reading.id (replicate c.listed_count-pages.result None)) reading.id []) 0 (guest_places (kept_pages (take reading.count runs))))) c.deref.ensures.value
      ∙ put_whole lists reading.id c.listed_count-pages.result (guest_places pages) (omega (arith, small.id, c.self.invariant.2.lists_count)) (length-guest_places pages ∙ sym listed) in
      let same = ap (regions_of (slice_set defined reading.id true)) filled
      ∙ regions_of-insert defined lists reading.id (guest_places pages) (omega (arith, small.id)) c.self.invariant.2.flags c.self.invariant.2.lists_count in
      (λ i. record { guest = c.self.inside.guest; frame = c.self.inside.frame; regions = same i; chain = None })
      ∙ (λ i. record { guest = (c.self.view_is i).guest; frame = (c.self.view_is i).frame; regions = with_pages ((c.self.view_is i).regions) ((is i).id) ((is i).pages); chain = None });
  err = tt;
}
