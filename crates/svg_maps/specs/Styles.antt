-- Style sheets: the rules of all themes, and the colours of one.
use Rattle.std.specs.Prelude.{List, ◌++◌, ℕ, codes}
use Rattle.svg_maps.specs.declared.style.Theme.{Theme}
use Rattle.svg_maps.specs.declared.style.Theme.TheVariants as Themes
use Rattle.svg_maps.specs.declared.style.TheConstants.{COMMON, LIGHT, DARK}

-- The colours of a light page, and then the colours of a dark page if the reader prefers dark pages.
abbrev pub both_text : List ℕ
both_text = LIGHT.now ++ codes "@media(prefers-color-scheme:dark){" ++ DARK.now ++ codes "}"

-- The colours of the theme. Example: of `Light` they begin with `.netmap .page{fill:#ffffff}`.
abbrev pub colours_text : Theme → List ℕ
colours_text Themes.Auto = both_text
colours_text Themes.Light = LIGHT.now
colours_text Themes.Dark = DARK.now

-- The style sheet of the theme: the rules of all themes, and then its colours.
abbrev pub style_text : Theme → List ℕ
style_text theme = COMMON.now ++ colours_text theme
