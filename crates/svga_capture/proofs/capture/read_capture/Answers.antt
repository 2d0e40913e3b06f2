use Rattle.svga_capture.proofs.CaptureAnswers.{good_answer, wrong_answer}
use Rattle.svga_capture.proofs.capture.read_capture.Goals as goal

pub returns-in-Ok : goal.returns-in-Ok
returns-in-Ok c = good_answer c.args.bytes.now c.in-Ok.ensures.fields.good

pub returns-in-Err : goal.returns-in-Err
returns-in-Err c = wrong_answer c.args.bytes.now (c.in-Err.place, c.in-Err.cause) c.in-Err.ensures.wrong
