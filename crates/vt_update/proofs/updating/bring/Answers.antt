use Rattle.std.proofs.Common.{◌≡◌, ◌≤◌, ◌*◌, List, ℕ, subst, rules, drop, vec_len, arith}
use Rattle.std.proofs.lemmas.Nat.{mul-le}
use Rattle.vt_screen.proofs.Places.{width-bounds}
use Rattle.vt_paint.specs.Spoken.{Speaks}
use Rattle.vt_update.specs.Leads.{Updates}
use Rattle.vt_update.proofs.Arrays.{marks-fit}
use Rattle.vt_update.proofs.Chunks.{nothing_sent}
use Rattle.vt_update.proofs.updating.bring.Goals as goal

pub changed_places-count-requires : goal.changed_places-count-requires
changed_places-count-requires g c =
    let same = c.same_columns.ensures.0 (search (rules, c.if-not-same_columns.false)) in (
      marks-fit g.row.R g.row.C c.requires.most_rows c.requires.most_columns,
      (
        omega (arith, c.requires.most_columns),
        (
          omega (arith, c.requires.most_rows),
          (c.requires.sound.display.of_size, (same.0, (c.requires.rows, c.requires.columns))),
        ),
      ),
    )

pub send_choice-requires : goal.send_choice-requires
send_choice-requires g c =
    let b = c.args.to.now.display.grid in
    let shape = c.requires.sound_to.display.grid.shape in
    let few = (width-bounds b.size b.width shape.size shape.width).1 in
    let all : b.size.rows * b.width ≤ 255 * 255 =
    mul-le b.size.rows b.width 255 255 shape.size.rows.1 (omega (arith, few, shape.size.columns)) in (
      search rules,
      (
        c.requires.sound,
        (
          c.requires.rows,
          (
            c.requires.most_rows,
            (
              c.requires.most_columns,
              (
                c.changed_places-count.ensures.count,
                (omega (arith, c.changed_places-count.ensures.bounded, all), c.requires.room),
              ),
            ),
          ),
        ),
      ),
    )

pub send_changes-requires : goal.send_changes-requires
send_changes-requires g c =
    let len : vec_len c.send_choice.new.out ≡ vec_len c.args.out.now = search (rules, c.if-not-send_choice.true) in (
      marks-fit g.row.R g.row.C c.requires.most_rows c.requires.most_columns,
      (
        omega (arith, c.requires.most_columns),
        (
          c.requires.to,
          (
            c.send_choice.ensures.sound,
            (
              c.requires.rows,
              (c.requires.columns, omega (arith, len, c.requires.room, c.send_choice.ensures.capacity)),
            ),
          ),
        ),
      ),
    )

pub returns-then-not-send_choice-clause-leads : goal.returns-then-not-send_choice-clause-leads
returns-then-not-send_choice-clause-leads g c =
    let taken : c.send_choice.new.out.items ≡ c.args.out.now.items = search (rules, c.if-not-send_choice.true) in
    let same = c.same_columns.ensures.0 (search (rules, c.if-not-same_columns.false)) in
    subst (λ (before : List ℕ). Updates c.args.shown.now c.args.to.now before c.send_changes.new.out.items) taken
    (c.send_changes.ensures.leads c.args.shown.now c.requires.sound
    (record { width = same.0; stops = same.1; marked = c.changed_places-count.ensures.marked }))

pub returns-then-not-send_choice-clause-speaks : goal.returns-then-not-send_choice-clause-speaks
returns-then-not-send_choice-clause-speaks g c =
    let len : vec_len c.send_choice.new.out ≡ vec_len c.args.out.now = search (rules, c.if-not-send_choice.true) in
    let same = c.same_columns.ensures.0 (search (rules, c.if-not-same_columns.false)) in
    subst (λ n. Speaks (drop n c.send_changes.new.out.items)) len
    (c.send_changes.ensures.speaks c.args.shown.now
    (record { width = same.0; stops = same.1; marked = c.changed_places-count.ensures.marked }))

pub returns-then-not-send_choice-clause-ascii : goal.returns-then-not-send_choice-clause-ascii
returns-then-not-send_choice-clause-ascii g c =
    c.spoken.ensures.ascii (drop (vec_len c.args.out.now) c.send_changes.new.out.items)
    (returns-then-not-send_choice-clause-speaks g c)

pub returns-then-not-same_columns-clause-nothing : goal.returns-then-not-same_columns-clause-nothing
returns-then-not-same_columns-clause-nothing g c =
    nothing_sent c.args.shown.now c.args.to.now _ _
    (c.sized_leading.ensures.nothing c.args.to.now.display.grid.size c.args.shown.now c.args.to.now c.requires.sound)
    (c.send_repaint.ensures.leads c.args.shown.now c.requires.sound)
    (λ e. search (rules, c.same_state.ensures.1 e, c.if-same_state.false))

pub returns-then-not-send_choice-clause-nothing : goal.returns-then-not-send_choice-clause-nothing
returns-then-not-send_choice-clause-nothing g c =
    nothing_sent c.args.shown.now c.args.to.now _ _
    (c.sized_leading.ensures.nothing c.args.to.now.display.grid.size c.args.shown.now c.args.to.now c.requires.sound)
    (returns-then-not-send_choice-clause-leads g c)
    (λ e. search (rules, c.same_state.ensures.1 e, c.if-same_state.false))

pub returns-else-not-send_choice-clause-nothing : goal.returns-else-not-send_choice-clause-nothing
returns-else-not-send_choice-clause-nothing g c =
    nothing_sent c.args.shown.now c.args.to.now _ _
    (c.sized_leading.ensures.nothing c.args.to.now.display.grid.size c.args.shown.now c.args.to.now c.requires.sound)
    (search (rules, c.send_choice.ensures.leads, c.if-not-send_choice.false))
    (λ e. search (rules, c.same_state.ensures.1 e, c.if-same_state.false))
