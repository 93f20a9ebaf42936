use Rattle.vt_feed.proofs.Spelled.{all-ask, after-escape-asked, after-escape-left, gives-up}
use Rattle.vt_feed.proofs.laws.spelled.Goals as goal

pub returns : goal.returns
returns c =
    let split = c.one_split.ensures in
    let spelling = c.spelled.ensures in record {
      asked = λ xs are. (all-ask split spelling xs are).asked;
      left = λ xs are. (all-ask split spelling xs are).left;
      escape_asked = λ r xs more is are starts. after-escape-asked split spelling r xs more is are starts;
      escape_left = λ r xs more is are starts. after-escape-left split spelling r xs more is are starts;
      given_up = gives-up;
    }
