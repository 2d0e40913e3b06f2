use Rattle.std.proofs.Common.{rules, ◌≡◌, sym, subst}
use Rattle.std.proofs.Common.{Option, Some}
use Rattle.atomic_table.specs.Seated.{TableId}
use Rattle.svga_device.specs.Devices.{DeviceHas}
use Rattle.svga_pair.specs.RaceDevices.{RunsOn}
use Rattle.svga_pair.proofs.RaceSteps.{runs_then}
use Rattle.svga_pair.proofs.threads.run.Goals as goal

some_same : (a b : TableId) → ◌≡◌ {A = Option TableId} (Some a) (Some b) → a ≡ b
some_same a b e = cc

pub returns-in-Ok-clause-device : goal.returns-in-Ok-clause-device
returns-in-Ok-clause-device g c =
    let same : c.in-Ok.child.promise.0.value ≡ c.args.device = search rules in
    let back : RunsOn c.in-Ok.child.promise.0.value c.join.result = c.join.ensures in
    runs_then _ _ _ (subst (λ (x : DeviceHas). RunsOn x c.join.result) same back) c.run_device-device.ensures.runs

pub returns-clause-device : goal.returns-clause-device
returns-clause-device g c =
    let same : c.in-Err.refused.value.2 ≡ c.args.device = search rules in
    let back : RunsOn c.in-Err.refused.value.2 c.spawn_with-in-Err.result = c.spawn_with-in-Err.ensures in
    let driven : RunsOn c.new-pump.result c.drive-driver-in-Err.new.waiter = record {
      table_is = some_same _ _ c.drive-driver-in-Err.ensures.table;
      shows = c.drive-driver-in-Err.ensures.shows;
    } in
    let given : RunsOn c.new-pump.result c.into_device.result =
    subst (RunsOn c.new-pump.result) (sym c.into_device.ensures) driven in
    runs_then _ _ _ (subst (λ (x : DeviceHas). RunsOn x c.spawn_with-in-Err.result) same back)
    (runs_then _ _ _ (subst (λ (x : DeviceHas). RunsOn x c.into_device.result) c.new-pump.ensures given)
    c.run_device-device-in-Err.ensures.runs)
