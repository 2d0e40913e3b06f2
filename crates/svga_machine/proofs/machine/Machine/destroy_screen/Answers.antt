use Rattle.std.proofs.Common.{ap, refl, sym, ◌∙◌, arith}
use Rattle.std.specs.FinMap as map
use Rattle.svga_model.proofs.StandingLaws.{first_is_least}
use Rattle.svga_model.specs.Screens.{destroy_screen_tests, definitions_of, without_screen}
use Rattle.svga_model.specs.Standing.{least_standing}
use Rattle.svga_model.specs.States.{Kept}
use Rattle.svga_machine.specs.MachineSet.{MachineSet, kept_of}
use Rattle.svga_machine.proofs.PartsLaws.{AreNew, kept_is, new_parts}
use Rattle.svga_machine.proofs.machine.Machine.destroy_screen.Goals as goal

-- what the machine kept
abbrev old : goal.After-destroy_allowed → Kept
old c = kept_of c.self.inside.shape c.self.inside.screens c.self.inside.fence

-- and what it is to keep
abbrev after : goal.After-destroy_allowed → Kept
after c = record (old c) { screens = without_screen c.self.inside.screens.screens c.args.id }

pub destroy_allowed-requires : goal.destroy_allowed-requires
destroy_allowed-requires c =
    first_is_least 0 (destroy_screen_tests (definitions_of c.self.inside.screens.screens) c.args.id) (omega arith, (omega arith, tt))
    ∙ ap (λ m. least_standing (destroy_screen_tests (definitions_of m.kept.screens) c.args.id)) c.self.view_is
    ∙ c.requires

new : (c : goal.After-destroy_allowed) → AreNew (after c) c.apply.new.self c.destroy_allowed.new.self c.self.inside.fence
new c = record {
  shape = c.apply.ensures.shape (record { kept = old c; memory = map.empty }) (sym c.self.invariant.0.shape);
  screens_are = ap (λ s. s.screens) (sym c.destroy_allowed.ensures);
  fence_is = refl;
}

pub invariant_of-self : goal.invariant_of-self
invariant_of-self c = (
  new_parts (after c) (old c) c.apply.new.self c.self.inside.shape c.destroy_allowed.new.self c.self.inside.screens c.self.inside.fence
      c.self.invariant.0 refl c.apply.ensures.valid (ap (λ s. s.budget) c.destroy_allowed.ensures) (new c),
  c.self.invariant.1,
)

pub returns : goal.returns
returns c =
    (λ i. record { kept = kept_is (after c) c.apply.new.self c.destroy_allowed.new.self c.self.inside.fence (new c) i; chain = c.apply.ensures.chain i })
    ∙ ap {A = MachineSet} (λ m. record m { kept = record m.kept { screens = without_screen m.kept.screens c.args.id } }) c.self.view_is
