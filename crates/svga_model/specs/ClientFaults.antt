-- Why a client's call is refused.
use Rattle.std.specs.Prelude.{ℕ, List, [], ◌∷◌, Bool, if◌then◌else◌, Option, Some, None}
use Rattle.svga_cmd.specs.Fault.{number_of}
use Rattle.svga_cmd.specs.declared.fault.Fault.{Fault}
use Rattle.svga_cmd.specs.declared.page.PageKey.{PageKey}

pub data ClientFault : Type 0 where
  -- the command or the chain has this fault
  Refused : Fault → ClientFault
  -- a page that is touched isn't lent; a page is lent, or isn't; no fence stands behind the last command that
  -- touches it; there is no such page, or not so many bytes of it
  PageOut : PageKey → ClientFault
  PageLent : PageKey → ClientFault
  NotLent : PageKey → ClientFault
  NoFence : PageKey → ClientFault
  PageRange : PageKey → ClientFault

-- the number by which it is told
abbrev pub client_number : ClientFault → ℕ
client_number (Refused f) = number_of f
client_number (PageOut key) = 21
client_number (PageLent key) = 22
client_number (NotLent key) = 23
client_number (NoFence key) = 24
client_number (PageRange key) = 25

-- the page that is told with it
abbrev pub client_key : ClientFault → Option PageKey
client_key (Refused f) = None
client_key (PageOut key) = Some key
client_key (PageLent key) = Some key
client_key (NotLent key) = Some key
client_key (NoFence key) = Some key
client_key (PageRange key) = Some key

-- the first refusal whose test is true
abbrev pub first_true : List (Bool × ClientFault) → Option ClientFault
first_true [] = None
first_true (rule ∷ rules) = if rule.0 then Some rule.1 else first_true rules
