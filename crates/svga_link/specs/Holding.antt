-- What the calls for the act in hand make of the device's view, and what those for requests and stopping tell.
use Rattle.std.specs.Prelude.{◌≡◌, ◌≢◌, ℕ, List, Bool, true, false, not, Option, Some, None}
use Rattle.std.specs.FinMap as map
use Rattle.svga_cmd.specs.declared.page.PageKey.{PageKey}
use Rattle.svga_model.specs.Steps.{step}
use Rattle.svga_ring.specs.Core.{chain_of, given_with, held_with}
use Rattle.svga_ring.specs.Noting.{known_state}
use Rattle.svga_ring.specs.Requests.{IsRequest, Request, is_ring_request, request_value}
use Rattle.svga_ring.specs.Views.{DeviceView, loaded}
use Rattle.svga_link.specs.declared.requests.Request as given

-- a page is held, with these bytes
abbrev pub holding : DeviceView → PageKey → List ℕ → DeviceView
holding e key bytes = record e { noted = map.insert e.noted key (held_with (map.get e.noted key) bytes) }

-- a page that was held is given back with these bytes
abbrev pub returned : DeviceView → PageKey → List ℕ → DeviceView
returned e key bytes = record e { noted = map.insert e.noted key (given_with (map.get e.noted key) bytes) }

-- the number of the fence in hand is stored
abbrev pub with_fence : DeviceView → DeviceView
with_fence e = record e { stored = true }

-- the chain that was loaded is answered, and what is kept is its step further
abbrev pub replied : DeviceView → DeviceView
replied e = record e {
  kept = (step (known_state e) (chain_of e.wanted)).kept;
  noted = map.empty;
  answered = e.wanted.number;
}

-- CONFIG_DONE while the driver runs, and once it has stopped
abbrev pub config_value : Bool → ℕ
config_value true = 1
config_value false = 0

-- CONFIG_DONE was loaded, which tells whether the driver runs
abbrev pub with_config : DeviceView → Bool → DeviceView
with_config e runs = record e {
  saw_stopped = not runs;
  drained = false;
  config_loads = loaded e.config_loads (config_value runs);
}

-- the numbers of a request, as calls give them
pub record HasNumbers (found : given.Request) (r : Request) : Type 0 where
  pub number_is : found.number ≡ r.number
  pub id_is : found.id ≡ r.id
  pub descriptor_is : found.descriptor ≡ r.descriptor

-- A request was loaded. It fits its word, and asks for a chain.
pub record LoadsRequest (before after : DeviceView) (r : Request) : Type 0 where
  pub fits : IsRequest r
  pub no_ring : is_ring_request r ≡ false
  pub view : after
      ≡ record before {
        wanted = r;
        request_loads = loaded before.request_loads (request_value r);
      }

-- it is answered, or it is out and has these numbers
abbrev pub AnswersRequest : Request → ℕ → Option given.Request → Type 0
AnswersRequest r answered None = r.number ≡ answered
AnswersRequest r answered (Some found) = (r.number ≢ answered) × HasNumbers found r

pub record RequestTold (before after : DeviceView) (found : Option given.Request) : Type 0 where
  pub request : Request
  pub told : LoadsRequest before after request
  pub answers : AnswersRequest request before.answered found
