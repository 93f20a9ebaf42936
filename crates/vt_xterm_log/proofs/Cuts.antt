-- The log of chunks in turn is that of the chunks joined.
use Rattle.std.proofs.Common.{◌≡◌, ◌∙◌, ℕ, List, [], ◌++◌, refl, ap}
use Rattle.vt_feed.specs.Actions.{actions, read_after, state_after}
use Rattle.vt_feed.specs.Languages.{utf8}
use Rattle.vt_feed.specs.Observing.{happenings}
use Rattle.vt_feed.proofs.Playing.{happenings-append}
use Rattle.vt_xterm_display.specs.Functions.{xterm}
use Rattle.vt_xterm_display.specs.Session.{Session, PlaysXterm}
use Rattle.vt_xterm_log.specs.Log.{lines_in, log_of}
use Rattle.vt_xterm_log.specs.Observers.{lines_in-append}

pub log-nothing : (s : Session) → log_of s [] ≡ []
unfolding log_of
log-nothing s = refl

pub log-both : (s t : Session) (a b before after : List ℕ) → PlaysXterm s a t before after → log_of s (a ++ b) ≡ log_of s a ++ log_of t b
unfolding log_of
log-both s t a b before after played =
    rw (played.state, played.read)
    (ap lines_in (happenings-append utf8 xterm s.reading s.screen a b)
    ∙ lines_in-append (happenings utf8 xterm s.reading s.screen a)
    (happenings utf8 xterm (read_after utf8 s.reading a) (state_after xterm (actions utf8 s.reading a) s.screen) b))
