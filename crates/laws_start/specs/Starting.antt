-- Where a driver begins. This project's own.
use Rattle.std.specs.Prelude.{◌≡◌, List, []}
use Rattle.codec_graph.specs.declared.raw.RawCodec.{RawCodec}
use Rattle.route_planner.specs.declared.routes.Plan.{Plan}
use Rattle.route_setup.specs.Means.{Means}
use Rattle.dma_pool.specs.declared.region.TheConstants.{MOST_GRANULES}
use Rattle.dma_pool.specs.Pools.{PoolState}
use Rattle.hda_files.specs.declared.machine.Machine.{Machine}
use Rattle.hda_world.specs.declared.world.TheConstants.{REGION_BYTES}
use Rattle.rig.specs.Replays.{start_of}
use Rattle.driver_progress.specs.Tasks.{Task}
use Rattle.driver_progress.specs.States.{state_opened}
use Rattle.driver_bring_up.specs.declared.bringing.BringUp.{BringUp}
use Rattle.driver_bring_up.specs.Calls.{state_of}
use Rattle.laws_bring_up.specs.Standing.{IsBroughtUp}
use Rattle.heard_lists.specs.Listings.{graphs_in}
use Rattle.laws_start.specs.Tasks.{verbs_meant}

-- a bring-up for a task stands to the start of a machine, whose commands are those of these plans, and nothing was done
-- yet
pub record BeginsAt (means : Means) (machine : Machine) (plans : List Plan) (task : Task) (bring_up : BringUp) : Type 0
  where
    pub stands : IsBroughtUp means (verbs_meant means machine.codecs plans) (graphs_in machine.codecs) task 0 bring_up
        (start_of REGION_BYTES machine)
    pub state : state_of bring_up ≡ state_opened

-- the whole region is free
pub record IsAllFree (pool : PoolState) : Type 0 where
  pub granules : pool.granules ≡ MOST_GRANULES
  pub free : pool.taken ≡ []
