use Rattle.std.proofs.Common.{◌≡◌, rules, [], ◌∷◌, ap, ◌∙◌}
use Rattle.svga_cmd.specs.Spelling.{Spells}
use Rattle.svga_cmd.specs.declared.command.Command.TheVariants.{Fence}
use Rattle.svga_driver.proofs.DeviceLaws.{fence_served, none_left}
use Rattle.svga_driver.proofs.device_tests.take_fence.Goals as goal

pub store_stop-requires : goal.store_stop-requires
store_stop-requires g c =
    let value = c.next_word-number.result in
    let read : c.store_fence.new.self.view.read ≡ 30 ∷ value ∷ [] = search (
      rules,
      c.store_fence.ensures,
      c.next_word-number.ensures,
      c.next_word-id.ensures,
      c.read_next.ensures.told.view,
      c.requires.none_read,
      c.if-id-ne-SVGA_CMD_FENCE.false,
    ) in
    let spells : Spells (Fence value) c.store_fence.new.self.view.read =
    record { well_formed = tt; words = read } in (
      Fence value,
      fence_served c.store_fence.new.self.view value spells
          (ap (λ e. e.view.noted) c.store_fence.ensures ∙ ap (λ e. e.view.noted) c.next_word-number.ensures
          ∙ ap (λ e. e.view.noted) c.next_word-id.ensures ∙ ap (λ v. v.noted) c.read_next.ensures.told.view
          ∙ c.requires.none_noted)
          (ap (λ e. e.view.stored) c.store_fence.ensures),
    )

pub returns-clause-none_read : goal.returns-clause-none_read
returns-clause-none_read g c =
    let value = c.next_word-number.result in
    let read : c.store_fence.new.self.view.read ≡ 30 ∷ value ∷ [] = search (
      rules,
      c.store_fence.ensures,
      c.next_word-number.ensures,
      c.next_word-id.ensures,
      c.read_next.ensures.told.view,
      c.requires.none_read,
      c.if-id-ne-SVGA_CMD_FENCE.false,
    ) in
    let spells : Spells (Fence value) c.store_fence.new.self.view.read =
    record { well_formed = tt; words = read } in
    (none_left c.store_fence.new.self c.store_stop.new.self value spells c.store_stop.ensures).0

pub returns-clause-none_noted : goal.returns-clause-none_noted
returns-clause-none_noted g c =
    let value = c.next_word-number.result in
    let read : c.store_fence.new.self.view.read ≡ 30 ∷ value ∷ [] = search (
      rules,
      c.store_fence.ensures,
      c.next_word-number.ensures,
      c.next_word-id.ensures,
      c.read_next.ensures.told.view,
      c.requires.none_read,
      c.if-id-ne-SVGA_CMD_FENCE.false,
    ) in
    let spells : Spells (Fence value) c.store_fence.new.self.view.read =
    record { well_formed = tt; words = read } in
    (none_left c.store_fence.new.self c.store_stop.new.self value spells c.store_stop.ensures).1
