use Rattle.std.proofs.Common.{ap, refl, sym, ◌∙◌, arith}
use Rattle.std.specs.FinMap as map
use Rattle.svga_model.proofs.StandingLaws.{first_is_least}
use Rattle.svga_model.specs.Screens.{define_screen_tests, definitions_of, with_screen}
use Rattle.svga_model.specs.Standing.{first_standing, least_standing}
use Rattle.svga_model.specs.States.{Kept}
use Rattle.svga_machine.specs.MachineSet.{MachineSet, kept_of}
use Rattle.svga_machine.proofs.PartsLaws.{AreNew, kept_is, new_parts}
use Rattle.svga_machine.proofs.machine.Machine.define_screen.Goals as goal

-- what the machine kept
abbrev old : goal.After-define_allowed → Kept
old c = kept_of c.self.inside.shape c.self.inside.screens c.self.inside.fence

-- and what it is to keep
abbrev after : goal.After-define_allowed → Kept
after c = record (old c) { screens = with_screen c.self.inside.screens.screens c.args.def }

pub define_allowed-requires : goal.define_allowed-requires
define_allowed-requires c =
    ap (λ budget. first_standing (define_screen_tests budget (definitions_of c.self.inside.screens.screens) c.args.def)) c.self.invariant.0.budget
    ∙ first_is_least 0 (define_screen_tests c.self.inside.shape.limits.budget (definitions_of c.self.inside.screens.screens) c.args.def) (omega arith, (omega arith, (omega arith, tt)))
    ∙ ap (λ m. least_standing (define_screen_tests m.kept.limits.budget (definitions_of m.kept.screens) c.args.def)) c.self.view_is
    ∙ c.requires

new : (c : goal.After-define_allowed) → AreNew (after c) c.apply.new.self c.define_allowed.new.self c.self.inside.fence
new c = record {
  shape = c.apply.ensures.shape (record { kept = old c; memory = map.empty }) (sym c.self.invariant.0.shape);
  screens_are = ap (λ s. s.screens) (sym c.define_allowed.ensures);
  fence_is = refl;
}

pub invariant_of-self : goal.invariant_of-self
invariant_of-self c = (
  new_parts (after c) (old c) c.apply.new.self c.self.inside.shape c.define_allowed.new.self c.self.inside.screens c.self.inside.fence
      c.self.invariant.0 refl c.apply.ensures.valid (ap (λ s. s.budget) c.define_allowed.ensures) (new c),
  c.self.invariant.1,
)

pub returns : goal.returns
returns c =
    (λ i. record { kept = kept_is (after c) c.apply.new.self c.define_allowed.new.self c.self.inside.fence (new c) i; chain = c.apply.ensures.chain i })
    ∙ ap {A = MachineSet} (λ m. record m { kept = record m.kept { screens = with_screen m.kept.screens c.args.def } }) c.self.view_is
