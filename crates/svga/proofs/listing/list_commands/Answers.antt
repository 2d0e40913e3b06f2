use Rattle.svga.proofs.ListingLaws.{listed_all, listed_fault}
use Rattle.svga.proofs.listing.list_commands.Goals as goal

pub returns-in-Ok : goal.returns-in-Ok
returns-in-Ok g c =
    listed_all g.K.Sink.held g.K.Sink.faults c.new.result.words.now c.args.words.now c.args.lister.now c.args.sink.now
    c.in-Ok.field-0 c.each_command.new.visitor c.each_command.new.on c.new.ensures (c.in-Ok.ensures {u = tt}).ended

pub returns-in-Err : goal.returns-in-Err
returns-in-Err g c =
    listed_fault g.K.Sink.held g.K.Sink.faults c.new.result.words.now c.args.words.now c.args.lister.now c.args.sink.now
    c.in-Err.fault c.each_command.new.visitor c.each_command.new.on c.new.ensures (c.in-Err.ensures {u = tt}).stopped
