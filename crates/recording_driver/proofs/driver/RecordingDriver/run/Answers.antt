use Rattle.std.proofs.Common.{◌<◌, [], false, refl, sym, ◌∙◌}
use Rattle.command_engine.proofs.Callers.{made_none}
use Rattle.recording_driver.specs.Inside.{state_inside}
use Rattle.recording_driver.proofs.Kept.{called_on}
use Rattle.recording_driver.proofs.Called.{over_records, now_records}
use Rattle.recording_driver.proofs.driver.RecordingDriver.run.Goals as goal

pub invariant_of-self : goal.invariant_of-self
invariant_of-self g c =
    let few : c.self.inside.calls < c.self.inside.runs = rw (← c.self.view_is) at c.requires.few in
    let now = c.record.ensures in
    called_on (state_inside c.self.inside) _ c.self.invariant few now.started now.idle now.quiet now.corb now.rirb now.keeps now.few refl refl refl

pub returns-then-records_on-clause-records : goal.returns-then-records_on-clause-records
returns-then-records_on-clause-records g c = rw (← c.self.view_is)
    (let told = g.P.Platform.told c.args.platform.now in
    let now = c.record.ensures in
    now_records false (state_inside c.self.inside) _ [] told told (g.P.Platform.told c.record.new.platform) refl (made_none told) (sym c.records_on.ensures ∙ c.if-records_on.true) c.self.invariant.idle now.records
    (record {
      corb = now.corb;
      rirb = now.rirb;
      geometry = now.keeps.geometry;
      list = now.keeps.list;
      periods = now.keeps.periods;
      total = now.keeps.total;
      pool = refl;
      graphs = refl;
      plans = refl;
      sent = refl;
      runs = refl;
    }))

pub returns-else-records_on-clause-records : goal.returns-else-records_on-clause-records
returns-else-records_on-clause-records g c = rw (← c.self.view_is)
    (over_records false (state_inside c.self.inside) _ (g.P.Platform.told c.args.platform.now) (sym c.records_on.ensures ∙ c.if-records_on.false) refl refl
    (record { corb = refl; rirb = refl; geometry = refl; list = refl; periods = refl; total = refl; pool = refl; graphs = refl; plans = refl; sent = refl; runs = refl }))
