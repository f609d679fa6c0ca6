-- What the code of comparing needs beside the definitions of `hausdorff`.
pub mod Outlines
pub mod ReportOf
