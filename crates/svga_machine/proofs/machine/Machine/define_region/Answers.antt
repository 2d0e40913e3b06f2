use Rattle.std.proofs.Common.{ap, refl, sym, ◌∙◌}
use Rattle.std.specs.FinMap as map
use Rattle.svga_model.specs.States.{Kept}
use Rattle.svga_model.specs.Regions.{with_region}
use Rattle.svga_machine.specs.MachineSet.{MachineSet, kept_of}
use Rattle.svga_machine.proofs.PartsLaws.{AreNew, kept_is, new_parts}
use Rattle.svga_machine.proofs.machine.Machine.define_region.Goals as goal

-- what the machine kept
abbrev old : goal.After-apply → Kept
old c = kept_of c.self.inside.shape c.self.inside.screens c.self.inside.fence

-- and what it is to keep
abbrev after : goal.After-apply → Kept
after c = record (old c) { regions = with_region c.self.inside.shape.regions.regions c.args.region c.args.pages }

new : (c : goal.After-apply) → AreNew (after c) c.apply.new.self c.self.inside.screens c.self.inside.fence
new c = record {
  shape = c.apply.ensures.shape (record { kept = old c; memory = map.empty }) (sym c.self.invariant.0.shape);
  screens_are = refl;
  fence_is = refl;
}

pub invariant_of-self : goal.invariant_of-self
invariant_of-self c = (
  new_parts (after c) (old c) c.apply.new.self c.self.inside.shape c.self.inside.screens c.self.inside.screens c.self.inside.fence
      c.self.invariant.0 refl c.apply.ensures.valid refl (new c),
  c.self.invariant.1,
)

pub returns : goal.returns
returns c =
    (λ i. record { kept = kept_is (after c) c.apply.new.self c.self.inside.screens c.self.inside.fence (new c) i; chain = c.apply.ensures.chain i })
    ∙ ap {A = MachineSet} (λ m. record m { kept = record m.kept { regions = with_region m.kept.regions c.args.region c.args.pages } }) c.self.view_is
