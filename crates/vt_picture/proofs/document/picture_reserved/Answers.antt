use Rattle.std.proofs.Common.{◌≡◌, append_assoc, ap}
use Rattle.vt_screen.specs.declared.size.Size.{Size}
use Rattle.vt_picture.specs.Picture.{picture_of}
use Rattle.vt_picture.proofs.document.picture_reserved.Goals as goal

pub returns-clause-items : goal.returns-clause-items
unfolding picture_of
returns-clause-items c =
    let rows : c.size.result.rows ≡ c.args.t.now.display.grid.size.rows = ap (λ (z : Size). z.rows) c.size.ensures.size in
    rw (
      c.push_bytes-2.ensures.items,
      c.push_group.ensures.items,
      c.push_style.ensures.items,
      c.push_alternative.ensures.items,
      c.push_title_end.ensures.items,
      c.push_bytes.ensures.items,
      c.push_document_start.ensures.items,
      c.width.ensures.width,
      rows,
    )
    (simp append_assoc)
