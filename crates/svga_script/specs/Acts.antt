-- What the acts of a script are in the model's words.
use Rattle.std.specs.Prelude.{ℕ, List, map as map_list}
use Rattle.svga_model.specs.ClientActs as model
use Rattle.svga_model.specs.ScriptWords.{before_plus, count_in, key_in, run_in}
use Rattle.svga_script.specs.declared.act.ClientAct.{ClientAct}
use Rattle.svga_script.specs.declared.act.ClientAct.TheVariants as act
use Rattle.svga_script.specs.declared.key.Keys.{Keys}
use Rattle.svga_script.specs.declared.list.Run.{Run}

abbrev pub run_of : Run → model.PageRun
run_of r = record { first = r.first; count = r.count }

abbrev pub act_of : ClientAct → model.ClientAct
act_of (act.Screen id width height x y) = model.Screen id width height x y
act_of (act.Destroy id) = model.Destroy id
act_of (act.Region id pages) = model.Region id pages
act_of (act.Map id offset runs) = model.Map id offset (map_list run_of runs)
act_of (act.Same id offset count page) = model.Same id offset count page
act_of (act.Gmrfb g) = model.SetGmrfb g
act_of (act.Blit b) = model.BlitTo b
act_of (act.Back b) = model.BlitBack b
act_of (act.Update x y width height) = model.Update x y width height
act_of act.Fence = model.NextFence
act_of (act.Write key offset bytes) = model.Write key offset bytes
act_of (act.Fill key byte) = model.Fill key byte
act_of (act.Lend first count) = model.Lend first count
act_of (act.Take first count) = model.Take first count
act_of (act.Show key) = model.Show key
act_of (act.Describe id page) = model.Describe id page

-- the run that a RUN's letters spell, and the first key and the count that a KEYS' letters spell
abbrev pub run_read : List ℕ → Run
run_read letters = record { first = (run_in letters).first; count = (run_in letters).count }

abbrev pub keys_read : List ℕ → Keys
keys_read letters = record { first = key_in (before_plus letters); count = count_in letters }
