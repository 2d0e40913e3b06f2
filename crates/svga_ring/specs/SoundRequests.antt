-- What is sound of requests.
use Rattle.std.specs.Prelude.{◌≡◌, ◌≢◌, ◌⊎◌, ◌<◌, ◌^◌, ℕ, List, [], length, slice_index, false}
use Rattle.svga_cmd.specs.declared.command.Command.{Command}
use Rattle.svga_cmd.specs.declared.session.Way.{Way}
use Rattle.svga_cmd.specs.declared.session.Way.TheVariants.{Reserve, Dword}
use Rattle.svga_model.specs.Acts.{Act}
use Rattle.svga_ring.specs.Requests.{IsChainOut, IsRequest, Request, is_ring_request, request_value}
use Rattle.svga_ring.specs.SharedTable.{reply_word, request_word, reserved_word}
use Rattle.svga_ring.specs.SoundPages.{IsLastChain}

-- The words of request and reply, and what both ends know of them. A request is out while its number isn't
-- the last one answered; it is open to the driver while its number isn't the reply that the driver loaded
-- last.
pub record AreRequests (words : List ℕ) (acts : List Act) (request wanted : Request)
    (answered last_reply reserved : ℕ) : Type 0 where
  pub request_is : slice_index words request_word ≡ request_value request
  pub reply_is : slice_index words reply_word ≡ answered
  pub out_is_open : request.number ≢ answered → request.number ≢ last_reply
  pub out_is_last_chain : IsChainOut request answered → IsLastChain request acts
  -- what the device loaded last is the request, or one that was answered
  pub loaded_is : (wanted ≡ request) ⊎ (wanted.number ≡ answered)
  pub reserved_is : slice_index words reserved_word ≡ reserved
  -- so that its word tells the request, and that of the reply a number
  pub fits : IsRequest request
  pub answered_fits : answered < 2 ^ 20
  -- until a ring grows: a sentence by itself, which no other rests on
  pub no_ring : is_ring_request request ≡ false

-- By reservations RESERVED isn't 0 while words are pending, and NEXT_CMD is stored once for each command; by
-- dword RESERVED is 0, and NEXT_CMD is stored once for each word that is sent.
pub record IsReserving (way : Way) (cs : List Command) (sent pending : List ℕ)
    (reserved next_stores : ℕ) : Type 0 where
  pub while_pending : way ≡ Reserve → pending ≢ [] → reserved ≢ 0
  pub none_by_dword : way ≡ Dword → reserved ≡ 0
  pub stores_by_command : way ≡ Reserve → next_stores ≡ length cs
  pub stores_by_dword : way ≡ Dword → next_stores ≡ length sent
