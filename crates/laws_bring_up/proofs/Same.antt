-- Codecs that are set up stay so while their settings do.
use Rattle.std.proofs.Common.{◌≡◌, ◌==◌, ℕ, Bool, true, false, List, [], ◌∷◌, map, length, if◌then◌else◌, Some, refl, sym, ap, subst, ◌∙◌, arith}
use Rattle.std.specs.Prelude.{All, drop}
use Rattle.std.proofs.lemmas.List.{drop_all}
use Rattle.std.proofs.lemmas.List.Elements.{All-nil}
use Rattle.std.proofs.lemmas.Option.{same_Some}
use Rattle.codec_graph.specs.declared.raw.RawCodec.{RawCodec}
use Rattle.codec_graph.specs.CodecStates.{CodecState}
use Rattle.codec_graph.specs.Settings.{Entries}
use Rattle.route_planner.specs.declared.routes.Plan.{Plan}
use Rattle.route_setup.specs.Means.{Means}
use Rattle.hda_registers.specs.declared.shapes.Width.{Width}
use Rattle.world_steps.specs.declared.Step.{Step}
use Rattle.hda_world.specs.Worlds.{World, TakenCommand, codec_at}
use Rattle.hda_world.specs.Steps.{after_steps}
use Rattle.hda_world.specs.Events.{after_write}
use Rattle.hda_world.proofs.Callers.{access_leaves}
use Rattle.laws_settings.specs.Histories.{words_of}
use Rattle.laws_settings.specs.Readings.{IsReading}
use Rattle.laws_settings.proofs.Callers.{remembers_itself, steps_remember, only_asked}
use Rattle.laws_bring_up.specs.SettingUp.{AreSetUp, AreSetUpForGood}
use Rattle.laws_bring_up.proofs.Idle.{SubmitsNone, idle_steps, write_idle}

-- these codecs have the graphs and the settings of those
pub record AreAlike (old new : List CodecState) : Type 0 where
  pub graphs : map (λ (codec : CodecState). codec.graph) new ≡ map (λ (codec : CodecState). codec.graph) old
  pub settings : map (λ (codec : CodecState). codec.settings) new ≡ map (λ (codec : CodecState). codec.settings) old

-- one that is found there
record IsFound (address : ℕ) (codecs : List CodecState) (graph : RawCodec) (settings : Entries) : Type 0 where
  now : CodecState
  found : codec_at address codecs ≡ Some now
  graph_is : now.graph ≡ graph
  settings_are : now.settings ≡ settings

found_alike : (address : ℕ) (old new : List CodecState) (codec : CodecState) → AreAlike old new → codec_at address old ≡ Some codec → IsFound address new codec.graph codec.settings
found_alike address [] new codec alike is = cc
found_alike address (first ∷ old) [] codec alike is = let none = alike.graphs in cc
found_alike address (first ∷ old) (now ∷ new) codec alike is =
    by (λ there. found_alike address old new codec (record { graphs = more_graphs; settings = more_settings }) there) (first.graph.address == address) refl is
  where
    graphs_are : now.graph ∷ map (λ (codec : CodecState). codec.graph) new ≡ first.graph ∷ map (λ (codec : CodecState). codec.graph) old
    graphs_are = alike.graphs

    settings_are : now.settings ∷ map (λ (codec : CodecState). codec.settings) new ≡ first.settings ∷ map (λ (codec : CodecState). codec.settings) old
    settings_are = alike.settings

    graph_is : now.graph ≡ first.graph
    graph_is = let same = graphs_are in cc

    entries_are : now.settings ≡ first.settings
    entries_are = let same = settings_are in cc

    more_graphs : map (λ (codec : CodecState). codec.graph) new ≡ map (λ (codec : CodecState). codec.graph) old
    more_graphs = let same = graphs_are in cc

    more_settings : map (λ (codec : CodecState). codec.settings) new ≡ map (λ (codec : CodecState). codec.settings) old
    more_settings = let same = settings_are in cc

    here_too : (is : Bool) → (first.graph.address == address) ≡ is → (now.graph.address == address) ≡ is
    here_too is here = ap (λ (graph : RawCodec). graph.address == address) graph_is ∙ here

    by : (codec_at address old ≡ Some codec → IsFound address new codec.graph codec.settings) → (here : Bool) → (first.graph.address == address) ≡ here → codec_at address (first ∷ old) ≡ Some codec
        → IsFound address (now ∷ new) codec.graph codec.settings
    by later true here there =
        let is_first = same_Some first codec (sym (ap (λ (is : Bool). if is then Some first else codec_at address old) here) ∙ there) in record {
          now = now;
          found = ap (λ (is : Bool). if is then Some now else codec_at address new) (here_too true here);
          graph_is = graph_is ∙ ap (λ (codec : CodecState). codec.graph) is_first;
          settings_are = entries_are ∙ ap (λ (codec : CodecState). codec.settings) is_first;
        }
    by later false here there =
        let rest = later (sym (ap (λ (is : Bool). if is then Some first else codec_at address old) here) ∙ there) in record {
          now = rest.now;
          found = ap (λ (is : Bool). if is then Some now else codec_at address new) (here_too false here) ∙ rest.found;
          graph_is = rest.graph_is;
          settings_are = rest.settings_are;
        }

-- over steps of the device while no codec takes a command
steps_alike : (steps : List Step) (world : World) → (after_steps steps world).commands ≡ world.commands → AreAlike world.codecs (after_steps steps world).codecs
steps_alike steps world same =
    let remembers = steps_remember world.codecs (length world.commands) steps world (remembers_itself world) in
    let none = ap (λ (commands : List TakenCommand). drop (length world.commands) commands) same ∙ drop_all (length world.commands) world.commands (omega arith) in record {
      graphs = remembers.graphs;
      settings = only_asked world.codecs (length world.commands) (after_steps steps world) remembers (subst (λ (commands : List TakenCommand). All IsReading (words_of commands)) (sym none) (All-nil IsReading));
    }

module _ (means : Means) (graphs : List RawCodec) where
  alike_set_up : (old new : World) → AreAlike old.codecs new.codecs → AreSetUp means graphs old → AreSetUp means graphs new
  alike_set_up old new alike set graph contains =
      let there = set graph contains in
      let found = found_alike graph.address old.codecs new.codecs there.now alike there.found in record {
        now = found.now;
        found = found.found;
        graph_is = found.graph_is ∙ there.graph_is;
        opened = λ plan planned. subst (λ (settings : Entries). means.IsOpenBy graph settings plan) (sym found.settings_are) (there.opened plan planned);
      }

  pub steps_for_good : (steps : List Step) (world : World) → AreSetUpForGood means graphs world → AreSetUpForGood means graphs (after_steps steps world)
  steps_for_good steps world are =
      let idle = idle_steps steps world are.idle in record {
        idle = idle.idle;
        set_up = alike_set_up world (after_steps steps world) (steps_alike steps world idle.commands_are) are.set_up;
      }

  pub write_for_good : (world : World) (at : ℕ) (width : Width) (value : ℕ) → SubmitsNone at width value → AreSetUpForGood means graphs world → AreSetUpForGood means graphs (after_write at width value world)
  write_for_good world at width value none are =
      let leaves = access_leaves world at value width in record {
        idle = write_idle world at width value none are.idle;
        set_up = alike_set_up world (after_write at width value world) (record { graphs = leaves.graphs; settings = leaves.settings }) are.set_up;
      }
