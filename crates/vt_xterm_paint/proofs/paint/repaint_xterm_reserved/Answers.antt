use Rattle.std.proofs.Common.{append_assoc, arith}
use Rattle.std.proofs.lemmas.Grind.{flat_map-append}
use Rattle.std.specs.Fmt.{digits}
use Rattle.vt_xterm.specs.Play.{behind}
use Rattle.vt_xterm_paint.specs.Repaint.{xterm_repaint, xterm_repaint_events}
use Rattle.vt_xterm_paint.proofs.paint.repaint_xterm_reserved.Goals as goal

pub returns-clause-items : goal.returns-clause-items
unfolding xterm_repaint xterm_repaint_events digits
returns-clause-items c =
    rw (
      c.push_paste.ensures.items,
      c.push_resizes-2.ensures.items,
      c.push_shown.ensures.items,
      c.push-2.ensures.items,
      c.mode.ensures.value,
      c.push_page-2.ensures.items,
      c.push_hidden.ensures.items,
      c.push_page.ensures.items,
      c.push.ensures.items,
      c.reset.ensures.value,
      c.push_resizes.ensures.items,
      c.is_alternate-alternate.ensures,
      c.resizes.ensures,
      c.brackets.ensures,
    )
    (simp (flat_map-append, append_assoc))

pub push_resizes-requires-2 : goal.push_resizes-requires-2
push_resizes-requires-2 c =
    omega (
      arith,
      c.requires.room,
      c.reset.ensures.short,
      c.mode.ensures.short,
      c.push.ensures,
      c.push_resizes.ensures,
      c.push_page.ensures,
      c.push_hidden.ensures.bounded,
      c.push_hidden.ensures.capacity,
      c.push_page-2.ensures,
      c.push-2.ensures,
      c.push_shown.ensures,
    )

pub push_paste-requires : goal.push_paste-requires
push_paste-requires c =
    omega (
      arith,
      c.requires.room,
      c.reset.ensures.short,
      c.mode.ensures.short,
      c.push.ensures,
      c.push_resizes.ensures,
      c.push_page.ensures,
      c.push_hidden.ensures.bounded,
      c.push_hidden.ensures.capacity,
      c.push_page-2.ensures,
      c.push-2.ensures,
      c.push_shown.ensures,
      c.push_resizes-2.ensures,
    )

pub returns-clause-rebuilds : goal.returns-clause-rebuilds
returns-clause-rebuilds c = λ fits.
    c.sized_rebuilds.ensures c.args.t.now.display.grid.size (behind c.args.t.now c.args.front.now)
    (c.push_hidden.ensures.sound fits) c.requires.between

pub returns-clause-bounded : goal.returns-clause-bounded
returns-clause-bounded c =
    omega (
      arith,
      c.reset.ensures.short,
      c.mode.ensures.short,
      c.push.ensures.bounded,
      c.push_resizes.ensures.bounded,
      c.push_page.ensures.bounded,
      c.push_hidden.ensures.bounded,
      c.push_page-2.ensures.bounded,
      c.push-2.ensures.bounded,
      c.push_shown.ensures.bounded,
      c.push_resizes-2.ensures.bounded,
      c.push_paste.ensures.bounded,
    )
