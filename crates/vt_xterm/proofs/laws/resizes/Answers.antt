use Rattle.std.proofs.Common.{◌≡◌, ◌∙◌, ◌+◌, ◌-◌, ◌++◌, ℕ, Option, Bool, true, false, List, [], if◌then◌else◌, arith, ap, sym, subst}
use Rattle.vt_screen.specs.declared.size.Size.{Size}
use Rattle.vt_screen.specs.Grid.{width_on}
use Rattle.vt_term.specs.State.{Display, State}
use Rattle.vt_term.specs.Text.{lines_text}
use Rattle.vt_term.specs.Pages.{PageState, IsSoundPageAt, IsSoundSizedPage, page_of}
use Rattle.vt_term.specs.Resizing.{count_off, hidden_off, hidden_log, page_on, state_on, log_on}
use Rattle.vt_xterm.specs.Play.{Whole}
use Rattle.vt_xterm.specs.declared.sides.Sides.{Sides}
use Rattle.vt_xterm.specs.Resizing.{sides_on, main_off}
use Rattle.vt_xterm.proofs.Fitting.{resized-fit, own-sides}
use Rattle.vt_xterm.proofs.laws.resizes.Goals as goal

-- a page of the screen's size, of which no row leaves
own-other : ((page : PageState) → IsSoundSizedPage page → page_on page.grid.size 0 page ≡ page)
    → (size : Size) (off : ℕ) (page : PageState) → off ≡ 0 → IsSoundPageAt size page → page_on size off page ≡ page
own-other own size off page none sound =
    ap (λ n. page_on size n page) none
    ∙ ap (λ (s : Size). page_on s 0 page) (sym sound.of_size)
    ∙ own page (subst (λ s. IsSoundPageAt s page) (sym sound.of_size) sound)

none-off : (alternate : Bool) (off count : ℕ) → off ≡ 0 → count ≡ 0 → (if alternate then off else count) ≡ 0
none-off true off count first second = first
none-off false off count first second = second

same-log : (alternate : Bool) (hidden lines : List ℕ) → hidden ≡ [] → lines ≡ [] → (if alternate then hidden else lines) ≡ []
same-log true hidden lines first second = first
same-log false hidden lines first second = second

-- what is so of either page is so of the main one
main-kept : (alternate : Bool) (size : Size) (d : Display) (page : PageState) (hidden shown : List ℕ) (line : ℕ) (other : PageState)
    → (width_on size page.grid ≡ page.grid.width → hidden
    ++ lines_text (page_on size (hidden_off size page) page).saved.row (page_on size (hidden_off size page) page).grid
    ≡ lines_text page.saved.row page.grid)
    → (width_on size d.grid ≡ d.grid.width → shown ++ lines_text line other.grid ≡ lines_text d.cursor.row d.grid)
    → width_on size (if alternate then page else page_of d).grid ≡ (if alternate then page else page_of d).grid.width
    → (if alternate then hidden else shown)
    ++ lines_text (if alternate
    then (page_on size (if alternate then hidden_off size page else count_off size d) page).saved.row
    else line)
    (if alternate then page_on size (if alternate then hidden_off size page else count_off size d) page else other).grid
    ≡ lines_text (if alternate then page.saved.row else d.cursor.row) (if alternate then page else page_of d).grid
main-kept true size d page hidden shown line other first second wide = first wide
main-kept false size d page hidden shown line other first second wide = second wide

main-line : (alternate : Bool) (size : Size) (d : Display) (page : PageState) (line : ℕ)
    → (page_on size (hidden_off size page) page).saved.row + hidden_off size page ≡ page.saved.row
    → line + count_off size d ≡ d.cursor.row
    → (if alternate
    then (page_on size (if alternate then hidden_off size page else count_off size d) page).saved.row
    else line) + (if alternate then hidden_off size page else count_off size d)
    ≡ (if alternate then page.saved.row else d.cursor.row)
main-line true size d page line first second = first
main-line false size d page line first second = second

-- the page of a session has the size of its terminal
sized-page : (size : Size) (page : PageState) → IsSoundPageAt size page → IsSoundSizedPage page
sized-page size page sound = subst (λ s. IsSoundPageAt s page) (sym sound.of_size) sound

pub returns-clause-own : goal.returns-clause-own
returns-clause-own c = λ w sound other.
    let size : Size = w.state.display.grid.size in
    let off : ℕ = main_off size w.state.display w.pages in
    let none : off ≡ 0 = none-off w.pages.alternate (hidden_off size w.pages.other) (count_off size w.state.display)
    (omega (arith, other.saved.row_last)) (omega (arith, sound.display.cursor.row_last)) in
    let make : State → PageState → Option Sides → Whole =
    λ s page sides. record { state = s; pages = record w.pages { other = page; sides = sides } } in
    ap (λ s. make s (page_on size off w.pages.other) (sides_on size w.state.display w.pages.sides))
    (c.resizes.ensures.own w.state sound)
    ∙ ap (λ page. make w.state page (sides_on size w.state.display w.pages.sides)) (own-other c.resizes.ensures.own_page size off
    w.pages.other none other)
    ∙ ap (make w.state w.pages.other) (own-sides w.state.display w.pages.sides sound.display)

pub returns-clause-own_log : goal.returns-clause-own_log
returns-clause-own_log c = λ w sound other.
    let size : Size = w.state.display.grid.size in
    same-log w.pages.alternate (hidden_log size w.pages.other) (log_on size w.state)
    (ap (λ (s : Size). hidden_log s w.pages.other) (sym other.of_size)
    ∙ c.resizes.ensures.own_page_log w.pages.other (sized-page size w.pages.other other))
    (c.resizes.ensures.own_log w.state sound)

pub returns-clause-kept : goal.returns-clause-kept
returns-clause-kept c = λ size w sized sound other wide.
    main-kept w.pages.alternate size w.state.display w.pages.other (hidden_log size w.pages.other) (log_on size w.state)
    (state_on size w.state).display.cursor.row (page_of (state_on size w.state).display)
    (c.resizes.ensures.kept_page size w.pages.other sized (sized-page w.state.display.grid.size w.pages.other other))
    (c.resizes.ensures.kept size w.state sound) wide

pub returns-clause-line : goal.returns-clause-line
returns-clause-line c = λ size w sized sound other.
    main-line w.pages.alternate size w.state.display w.pages.other (state_on size w.state).display.cursor.row
    (c.resizes.ensures.line_page size w.pages.other sized other)
    (c.resizes.ensures.line size w.state)

pub returns-clause-sound : goal.returns-clause-sound
returns-clause-sound c = λ size w sized sound other. (
  c.resizes.ensures.sound size w.state sized sound,
  c.resizes.ensures.sound_page size (main_off size w.state.display w.pages) w.pages.other sized other,
)

pub returns-clause-sides : goal.returns-clause-sides
returns-clause-sides c = λ size w sized sound fit.
    resized-fit size w.state.display w.pages.sides sound.display (c.resizes.ensures.sound size w.state sized sound).display fit
