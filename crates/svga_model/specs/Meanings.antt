-- What a client's calls mean: each is done at once, one after another, up to the first that is refused.
use Rattle.std.specs.Prelude.{ℕ, List, [], ◌∷◌, ◌++◌, map as map_list, Option, Some, None, option_to_list}
use Rattle.std.specs.List.{flat_map}
use Rattle.svga_cmd.specs.declared.page.PageKey.{PageKey}
use Rattle.svga_model.specs.Acts.{Act}
use Rattle.svga_model.specs.ClientActs.{Call, ClientAct, Commit, CommitFence, DescribeRegion, LendPage, ShowPage, TakePage, WritePage, calls_of}
use Rattle.svga_model.specs.ClientFaults.{ClientFault}
use Rattle.svga_model.specs.Clients.{Client, act_of, after_call, next_fence, refusal_of}
use Rattle.svga_model.specs.Memories.{page_bytes}

-- what a call tells: the number of a fence, or a page
pub data Told : Type 0 where
  Fenced : ℕ → Told
  Shown : PageKey → List ℕ → Told

abbrev pub told_by : Client → Call → Option Told
told_by c (Commit command) = None
told_by c CommitFence = Some (Fenced (next_fence c))
told_by c (WritePage key offset bytes) = None
told_by c (LendPage key) = None
told_by c (TakePage key) = None
told_by c (ShowPage key) = Some (Shown key (page_bytes c.state.memory key))
told_by c (DescribeRegion id first) = None

-- a call, and the number of the line in which it stands
pub record LineCall : Type 0 where
  pub line : ℕ
  pub call : Call

-- the call that was refused
pub record Refusal : Type 0 where
  pub line : ℕ
  pub fault : ClientFault

-- the client as the calls leave it, what was done to the device and what was told, in
-- order, and where they end if one is refused
pub record Meaning : Type 0 where
  pub client : Client
  pub acts : List Act
  pub told : List Told
  pub refused : Option Refusal

-- a call before others that mean this, where it isn't refused, or is
abbrev pub meaning_with : Client → LineCall → Option ClientFault → Meaning → Meaning
meaning_with c l None m = record m {
  acts = option_to_list (act_of c l.call) ++ m.acts;
  told = option_to_list (told_by c l.call) ++ m.told;
}
meaning_with c l (Some f) m =
    record { client = c; acts = []; told = []; refused = Some (record { line = l.line; fault = f }) }

abbrev pub meaning_from : Client → List LineCall → Meaning
meaning_from c [] = record { client = c; acts = []; told = []; refused = None }
meaning_from c (l ∷ calls) = meaning_with c l (refusal_of c l.call) (meaning_from (after_call c l.call) calls)

-- an act with its line
pub record LineAct : Type 0 where
  pub line : ℕ
  pub act : ClientAct

-- the calls of acts, each with its act's line
abbrev pub line_calls : List LineAct → List LineCall
line_calls acts =
    flat_map (λ (a : LineAct). map_list (λ call. record { line = a.line; call = call }) (calls_of a.act)) acts

-- what two lists of calls mean, the second behind the first
abbrev pub joined : Meaning → Meaning → Meaning
joined m n =
    record { client = n.client; acts = m.acts ++ n.acts; told = m.told ++ n.told; refused = n.refused }
