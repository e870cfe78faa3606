use Rattle.std.proofs.Common.{◌++◌, map, ap₂, ◌∙◌}
use Rattle.live_paths.specs.Listed.{name_of}
use Rattle.tool_answers.specs.Told.{name_lines}
use Rattle.tool_answers.proofs.looking.names_text.Goals as goal

pub returns-clause-listed : goal.returns-clause-listed
returns-clause-listed c = λ plain image is.
    let names = map name_of c.in_ok-names.names.items in
    record {
      geometry = c.args.frozen.now.geometry;
      is_image = is.is_image;
      names = names;
      lists = c.in_ok-names.ensures.listed image is;
      text = c.in_ok-add_names.ensures plain ∙ ap₂ (λ before shown. before ++ name_lines (map name_of shown)) c.new-text.ensures.items c.as_slice.ensures.value;
    }
