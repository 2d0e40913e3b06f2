-- What is told, by the sentences on requests.
use Rattle.std.proofs.Common.{sym}
use Rattle.svga_ring.proofs.Acts.InHand.{is_answered, none_out}
use Rattle.svga_ring.proofs.Requests.Asks.{asked_taken}
use Rattle.svga_ring.proofs.Requests.Replies.{chain_alone, request_out}
use Rattle.svga_ring.proofs.Requests.Words.{request_tells, value_fits, wanted_is, word_of}
use Rattle.svga_ring.proofs.core_requests.requests_tell.Goals as goal

pub returns-clause-request : goal.returns-clause-request
returns-clause-request c = request_tells

pub returns-clause-request_fits : goal.returns-clause-request_fits
returns-clause-request_fits c = λ k core o. (o.requests.fits, sym o.requests.request_is)

pub returns-clause-reply : goal.returns-clause-reply
returns-clause-reply c = λ k core o. o.requests.reply_is

pub returns-clause-reply_fits : goal.returns-clause-reply_fits
returns-clause-reply_fits c = λ k core o. o.requests.answered_fits

pub returns-clause-wanted : goal.returns-clause-wanted
returns-clause-wanted c = λ k core o waits. wanted_is o.requests waits

pub returns-clause-asked : goal.returns-clause-asked
returns-clause-asked c = λ k core id first o can. (asked_taken k core id first o.of_words can).all

pub returns-clause-alone : goal.returns-clause-alone
returns-clause-alone c = λ k core o waits. chain_alone k core o (request_out k core o waits)

pub returns-clause-out_is_chain : goal.returns-clause-out_is_chain
returns-clause-out_is_chain c = request_out

pub returns-clause-chain_is_out : goal.returns-clause-chain_is_out
returns-clause-chain_is_out c = λ r answered out same. (let off = none_out r answered same in cc (off, out))

pub returns-clause-stopped : goal.returns-clause-stopped
returns-clause-stopped c = λ k core o stopped. is_answered o (o.stops.stopped_settled stopped)

pub returns-clause-word : goal.returns-clause-word
returns-clause-word c = word_of

pub returns-clause-value : goal.returns-clause-value
returns-clause-value c = value_fits
