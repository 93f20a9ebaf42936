use Rattle.vt_term.proofs.Happened.{length-happenings, happenings-append, events-happened, lines-happened}
use Rattle.vt_term.proofs.SizeKept.{own-size}
use Rattle.vt_term.proofs.SizeHappened.{happenings-size}
use Rattle.vt_term.proofs.laws.sized_happened.Goals as goal

pub returns : goal.returns
returns c =
    let split = c.one_split.ensures in record {
      events = λ size s bytes sound. events-happened split s bytes sound.held;
      lines = λ size s bytes sound. lines-happened split s bytes sound.held;
      count = length-happenings;
      two = λ size s a b sound. happenings-append split s a b (own-size size s sound);
      size = λ size s bytes sound. happenings-size size s bytes sound.display.of_size;
    }
