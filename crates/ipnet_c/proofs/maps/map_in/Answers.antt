-- The look has the options and the entries.
use Rattle.std.proofs.Common.{refl}
use Rattle.svg_maps.specs.declared.overlay.Look.{Look}
use Rattle.ipnet_c.proofs.maps.map_in.Goals as goal

pub returns : goal.returns
returns c =
    let shown = c.args.shown in
    let look : Look = record {
      theme = shown.options.theme;
      shows_free = shown.options.shows_free;
      names = c.args.names;
      entries = record { titled = shown.titled; count = shown.count };
    } in (
      look,
      record { options_are = refl; no_names = c.requires.names; entries = c.requires.entries },
      c.in_ok-text.ensures,
    )
