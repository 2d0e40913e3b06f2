use Rattle.std.proofs.Common.{◌≡◌, refl, ◌∙◌, ◌++◌, sym, ap, length, take, drop, arith, Some, None}
use Rattle.std.specs.Prelude.{option_map}
use Rattle.svga_region.specs.Kept.{chain_of}
use Rattle.svga_region.proofs.ChainLaws.{answer_ok, answer_err, left_by, lent_whole}
use Rattle.svga_region.proofs.regions.Regions.chain_page.Goals as goal

pub returns-in-Ok : goal.returns-in-Ok
returns-in-Ok c = record {
  answers = λ chain p tables begun wants same.
      let old = c.self.inside.runs.items in
      let reading = c.unwrap-reading.result in
      let was = ap (option_map (chain_of old)) (sym c.unwrap-reading.ensures) ∙ ap (λ r. r.chain) c.self.view_is ∙ begun in
      let is : chain_of old reading ≡ chain = cc was in
      let lent = lent_whole old c.read_table.new.runs c.self.inside.runs.len c.self.inside.runs.ok.0 (omega (arith, c.read_table.auto.runs, ap length c.deref_mut.ensures.value)) in
      answer_ok c.self.inside.guest c.args.self.now.guest tables p (chain_of c.deref_mut.result.now reading) chain (chain_of c.read_table.new.runs c.in-Ok.read) _ c.in-Ok.read.wants c.next_of.result
      (ap (λ r. r.guest) c.self.view_is) (ap (λ runs. chain_of runs reading) c.deref_mut.ensures.value ∙ is) (ap (λ runs. chain_of runs c.in-Ok.read) (sym lent)) c.next_of.ensures
      ((c.in-Ok.ensures {u = tt}).answer p tables (ap (λ c. c.wants) is ∙ wants) (same ∙ sym c.bytes.ensures.bytes));
  left = left_by c.in-Ok.read.wants c.next_of.result (chain_of (take c.self.inside.runs.len (c.read_table.new.runs ++ drop (length c.read_table.new.runs) c.self.inside.runs.items)) c.in-Ok.read)
      c.next_of.ensures refl;
  kept = λ i. record {
    guest = (c.self.view_is i).guest;
    frame = (c.self.view_is i).frame;
    regions = (c.self.view_is i).regions;
    chain = Some (chain_of (take c.self.inside.runs.len (c.read_table.new.runs ++ drop (length c.read_table.new.runs) c.self.inside.runs.items)) c.in-Ok.read);
  };
}

pub returns-in-Err : goal.returns-in-Err
returns-in-Err c = record {
  answers = λ chain p tables begun wants same.
      let old = c.self.inside.runs.items in
      let reading = c.unwrap-reading.result in
      let was = ap (option_map (chain_of old)) (sym c.unwrap-reading.ensures) ∙ ap (λ r. r.chain) c.self.view_is ∙ begun in
      let is : chain_of old reading ≡ chain = cc was in
      answer_err c.self.inside.guest c.args.self.now.guest tables p (chain_of c.deref_mut.result.now reading) chain c.in-Err.fault
      (ap (λ r. r.guest) c.self.view_is) (ap (λ runs. chain_of runs reading) c.deref_mut.ensures.value ∙ is)
      ((c.in-Err.ensures {u = tt}).answer p tables (ap (λ c. c.wants) is ∙ wants) (same ∙ sym c.bytes.ensures.bytes));
  left = refl;
  kept = λ i. record {
    guest = (c.self.view_is i).guest;
    frame = (c.self.view_is i).frame;
    regions = (c.self.view_is i).regions;
    chain = None;
  };
}
