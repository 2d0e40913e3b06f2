-- What a client asks for: acts, as a script has one in a line, and the calls that
-- they are, each about one page at most.
use Rattle.std.specs.Prelude.{ℕ, ℤ, ◌+◌, List, [], ◌∷◌, length, map as map_list, replicate, None}
use Rattle.std.specs.List.{flat_map, range_with_len}
use Rattle.svga_cmd.specs.declared.blit.Blit.{Blit}
use Rattle.svga_cmd.specs.declared.command.Command.{Command}
use Rattle.svga_cmd.specs.declared.command.Command.TheVariants as command
use Rattle.svga_cmd.specs.declared.constants.TheConstants.{PAGE_SIZE}
use Rattle.svga_cmd.specs.declared.gmrfb.Gmrfb.{Gmrfb}
use Rattle.svga_cmd.specs.declared.page.PageKey.{PageKey}
use Rattle.svga_cmd.specs.declared.page.PageKey.TheVariants.{Guest, Frame}
use Rattle.svga_cmd.specs.declared.remap.RemapData.TheVariants.{Ppn32, SinglePpn32}
use Rattle.svga_cmd.specs.declared.screen.ScreenDef.{ScreenDef}

-- so many pages from one on
pub record PageRun : Type 0 where
  pub first : ℕ
  pub count : ℕ

pub data ClientAct : Type 0 where
  -- a screen: its id, its sides and its corner
  Screen : ℕ → ℕ → ℕ → ℤ → ℤ → ClientAct
  Destroy : ℕ → ClientAct
  -- a region of so many places; its places from an offset on, mapped to these
  -- pages, or so many of them to one page
  Region : ℕ → ℕ → ClientAct
  Map : ℕ → ℕ → List PageRun → ClientAct
  Same : ℕ → ℕ → ℕ → ℕ → ClientAct
  SetGmrfb : Gmrfb → ClientAct
  BlitTo : Blit → ClientAct
  BlitBack : Blit → ClientAct
  Update : ℕ → ℕ → ℕ → ℕ → ClientAct
  NextFence : ClientAct
  -- bytes of a page from an offset on, or one byte all over it
  Write : PageKey → ℕ → List ℕ → ClientAct
  Fill : PageKey → ℕ → ClientAct
  -- so many pages from one on
  Lend : PageKey → ℕ → ClientAct
  Take : PageKey → ℕ → ClientAct
  Show : PageKey → ClientAct
  Describe : ℕ → ℕ → ClientAct

pub data Call : Type 0 where
  -- a command is committed, or the next FENCE
  Commit : Command → Call
  CommitFence : Call
  -- bytes of a page are written from an offset on
  WritePage : PageKey → ℕ → List ℕ → Call
  LendPage : PageKey → Call
  TakePage : PageKey → Call
  ShowPage : PageKey → Call
  -- a region gets the list that the chain from this page on gives, or goes, by page 0
  DescribeRegion : ℕ → ℕ → Call

-- a screen without a backing, with the flag word 1
abbrev pub plain_screen : ℕ → ℕ → ℕ → ℤ → ℤ → ScreenDef
plain_screen id width height x y =
    record { id = id; flags = 1; width = width; height = height; x = x; y = y; backing = None }

-- the page numbers of a run, and of several in order
abbrev pub run_numbers : PageRun → List ℕ
run_numbers r = range_with_len r.first r.count

abbrev pub runs_numbers : List PageRun → List ℕ
runs_numbers runs = flat_map run_numbers runs

-- the key so many pages behind
abbrev pub key_behind : PageKey → ℕ → PageKey
key_behind (Guest p) k = Guest (p + k)
key_behind (Frame g) k = Frame (g + k)

-- so many keys from one on, in order
abbrev pub keys_from : PageKey → ℕ → List PageKey
keys_from key count = map_list (key_behind key) (range_with_len 0 count)

-- the calls of an act, in order
abbrev pub calls_of : ClientAct → List Call
calls_of (Screen id width height x y) = Commit (command.DefineScreen (plain_screen id width height x y)) ∷ []
calls_of (Destroy id) = Commit (command.DestroyScreen id) ∷ []
calls_of (Region id pages) = Commit (command.DefineGmr2 id pages) ∷ []
calls_of (Map id offset runs) =
    Commit (command.RemapGmr2 id offset (length (runs_numbers runs)) (Ppn32 (runs_numbers runs))) ∷ []
calls_of (Same id offset count page) = Commit (command.RemapGmr2 id offset count (SinglePpn32 page)) ∷ []
calls_of (SetGmrfb g) = Commit (command.DefineGmrfb g) ∷ []
calls_of (BlitTo b) = Commit (command.BlitToScreen b) ∷ []
calls_of (BlitBack b) = Commit (command.BlitToGmrfb b) ∷ []
calls_of (Update x y width height) = Commit (command.Update x y width height) ∷ []
calls_of NextFence = CommitFence ∷ []
calls_of (Write key offset bytes) = WritePage key offset bytes ∷ []
calls_of (Fill key byte) = WritePage key 0 (replicate PAGE_SIZE byte) ∷ []
calls_of (Lend key count) = map_list LendPage (keys_from key count)
calls_of (Take key count) = map_list TakePage (keys_from key count)
calls_of (Show key) = ShowPage key ∷ []
calls_of (Describe id first) = DescribeRegion id first ∷ []
